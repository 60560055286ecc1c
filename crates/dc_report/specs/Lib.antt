-- The modules of the definitions.
pub mod Lines
pub mod Grammar
pub mod Reports
pub mod Told
pub mod Writing
pub mod Laws
pub mod Spelling
pub mod Known
pub mod Carrying
pub mod Carries
pub mod Apart
pub mod Moves
pub mod Landings
