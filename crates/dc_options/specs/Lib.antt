-- The modules of the definitions.
pub mod Table
pub mod Values
pub mod Words
pub mod Sets
pub mod Settings
pub mod Reading
pub mod Given
pub mod Laws
