-- The modules of the proofs.
pub mod PathLemmas
pub mod OrderLemmas
pub mod FoundLemmas
pub mod Joins
pub mod Scanning
pub mod LawProofs
pub mod Texts
pub mod LineLemmas
pub mod NumberLemmas
pub mod PathOrder
pub mod Fronts
pub mod LimitLemmas
