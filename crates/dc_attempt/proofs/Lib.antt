pub mod RangeLemmas
pub mod ReadLemmas
pub mod StepLemmas
pub mod FillLemmas
pub mod EndLemmas
