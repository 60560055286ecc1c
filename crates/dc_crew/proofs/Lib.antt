-- The modules of the proofs.
pub mod SumLemmas
pub mod StateLemmas
pub mod HaltLemmas
pub mod AdvanceLemmas
pub mod BroughtLemmas
pub mod MeasureLemmas
pub mod SpentLemmas
pub mod WaveLemmas
pub mod HaltEnds
pub mod RunLemmas
pub mod EndLemmas
pub mod PlanLemmas
