pub mod Failing
pub mod Sinks
pub mod States
