-- The modules of the definitions.
pub mod Leaving
pub mod Joining
pub mod Adding
pub mod Whole
