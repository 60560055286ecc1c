pub mod PlanningLemmas
