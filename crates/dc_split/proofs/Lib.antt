-- The modules of the proofs.
pub mod Counting
pub mod Filling
pub mod Dealing
pub mod LawProofs
