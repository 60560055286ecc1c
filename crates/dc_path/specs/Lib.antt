-- The modules of the definitions.
pub mod Lists
pub mod Names
pub mod Paths
pub mod Order
pub mod Found
pub mod Unless
pub mod Reading
pub mod Laws
pub mod Lines
pub mod Numbers
pub mod Causes
pub mod Words
