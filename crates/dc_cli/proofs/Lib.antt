pub mod TopLemmas
pub mod PlainEnds
pub mod DrillLemmas
pub mod DrillListing
pub mod DrillEnds
