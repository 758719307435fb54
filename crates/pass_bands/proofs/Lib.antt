pub mod RowLaws
pub mod PlanLaws
