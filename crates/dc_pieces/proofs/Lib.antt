-- The modules of the proofs.
pub mod PieceLemmas
pub mod SortedLemmas
pub mod StandLemmas
pub mod CutLemmas
pub mod PlanLemmas
pub mod LawProofs
