-- The modules of the definitions.
pub mod Arrivals
pub mod Steps
pub mod Checking
pub mod Tests
pub mod Refused
pub mod Truth
pub mod TestAnswers
pub mod Limits
pub mod ListingTests
pub mod Words
pub mod Replaying
