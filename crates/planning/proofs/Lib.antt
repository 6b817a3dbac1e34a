pub mod PlanLaws
mod Examples
pub mod LineLaws
