-- The modules of the definitions.
pub mod Jobs
pub mod Slots
pub mod States
pub mod Halts
pub mod Advances
pub mod Ends
