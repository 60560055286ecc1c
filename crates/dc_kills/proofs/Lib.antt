-- The modules of the proofs.
pub mod EntryLemmas
pub mod Reading
