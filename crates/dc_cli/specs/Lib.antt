pub mod Verdict
pub mod DrillSteps
pub mod Drills
