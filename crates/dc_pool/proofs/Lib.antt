-- The modules of the proofs.
pub mod Sums
pub mod Steps
pub mod Losses
pub mod Numbers
