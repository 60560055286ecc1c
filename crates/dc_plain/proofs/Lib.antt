-- The modules of the proofs.
pub mod WordLemmas
pub mod ListLemmas
pub mod Crowds
pub mod PieceLemmas
pub mod LimitLemmas
pub mod LeftLemmas
pub mod UniqueLemmas
pub mod FolderLemmas
pub mod RefusalLemmas
pub mod CopyLemmas
