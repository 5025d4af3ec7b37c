pub mod Feet
pub mod ReadBack
pub mod Starts
pub mod Answers
pub mod Ends
pub mod PlanRead
