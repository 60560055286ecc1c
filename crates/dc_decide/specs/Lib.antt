pub mod Plans
pub mod Errors
pub mod Deciding
pub mod Looking
