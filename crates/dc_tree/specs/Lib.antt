pub mod Children
pub mod Arena
pub mod Places
pub mod Edits
pub mod Homes
pub mod Same
pub mod Walking
