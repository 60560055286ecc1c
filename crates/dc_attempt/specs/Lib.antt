pub mod Ranges
pub mod Benches
pub mod Steps
pub mod Attempts
pub mod Parts
