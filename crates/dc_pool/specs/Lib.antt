-- The modules of the definitions.
pub mod Drawing
pub mod Drawers
pub mod Answers
pub mod Counts
pub mod Waves
