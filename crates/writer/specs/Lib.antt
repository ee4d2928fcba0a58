-- What a writer has put down, and the lines of a plan.
pub mod Appended
pub mod AppendedLaws
pub mod Plans
pub mod PlanLaws
