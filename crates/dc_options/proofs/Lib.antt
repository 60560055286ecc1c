pub mod WordLemmas
pub mod LookLemmas
pub mod WithinLemmas
pub mod PathLemmas
pub mod SwapLemmas
pub mod LawProofs
