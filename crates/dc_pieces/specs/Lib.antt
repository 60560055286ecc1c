-- The modules of the definitions.
pub mod Pieces
pub mod Cutting
pub mod Cuts
pub mod Parts
pub mod Laws
