pub mod Entries
pub mod Errors
pub mod Roots
pub mod Listed
pub mod Walks
pub mod Walking
pub mod Listing
