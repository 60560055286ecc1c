pub mod Steps
pub mod Keeping
pub mod Settings
pub mod Making
pub mod Landing
pub mod Removals
pub mod Moving
