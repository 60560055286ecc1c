-- The modules of the proofs.
pub mod AddingLemmas
pub mod OrderLemmas
pub mod JoinLemmas
pub mod LeavingLemmas
pub mod NumberLemmas
pub mod OwnLemmas
