-- The modules of the definitions.
pub mod Building
pub mod Forms
pub mod Filters
pub mod Laws
