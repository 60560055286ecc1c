-- The modules of the definitions.
pub mod Writes
pub mod Pieces
pub mod Output
