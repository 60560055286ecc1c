-- The modules of the definitions.
pub mod Jobs
pub mod Result
pub mod Effects
pub mod Commits
pub mod Atomic
pub mod Laws
pub mod Begins
pub mod During
pub mod Stops
pub mod Planning
pub mod Removing
