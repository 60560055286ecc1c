-- The modules of the proofs.
pub mod CutLemmas
pub mod RowLemmas
pub mod HandedLemmas
pub mod PairLemmas
pub mod Lawful
