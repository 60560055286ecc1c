-- The modules of the definitions.
pub mod Parts
pub mod Entries
pub mod Plans
pub mod Faults
pub mod Reading
