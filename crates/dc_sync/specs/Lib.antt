-- The modules of the definitions.
pub mod Errors
pub mod Steps
pub mod Reading
pub mod Beginning
pub mod Replays
pub mod Checks
