-- The modules of the definitions.
pub mod Plain
pub mod Left
pub mod Laws
