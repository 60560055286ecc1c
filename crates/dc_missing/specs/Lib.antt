pub mod Limits
pub mod Errors
pub mod Missing
pub mod Walks
pub mod Finding
