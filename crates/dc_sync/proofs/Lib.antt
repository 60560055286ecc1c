-- The modules of the proofs.
pub mod ReadingLemmas
pub mod NameLemmas
pub mod ReplayLemmas
pub mod LookLemmas
pub mod OriginLemmas
pub mod TestLemmas
pub mod TestLoops
pub mod TestParts
