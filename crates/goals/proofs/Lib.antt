pub mod GoalsTest
pub mod GoalsTiled
pub mod ShownLaws
pub mod AdvanceLaws
pub mod ReplayLaws
