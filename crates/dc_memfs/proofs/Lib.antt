pub mod LookLemmas
pub mod ChangeLemmas
pub mod SteadyLemmas
