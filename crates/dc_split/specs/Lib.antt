-- The modules of the definitions.
pub mod Bundles
pub mod Laws
