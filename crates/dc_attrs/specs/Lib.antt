pub mod Attributes
pub mod Limits
pub mod Trees
pub mod Refusals
pub mod Keeping
pub mod Fitting
pub mod Lines
pub mod Spelling
