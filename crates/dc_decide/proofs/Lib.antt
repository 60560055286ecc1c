pub mod PlanLemmas
pub mod ReadLemmas
pub mod DecideLemmas
