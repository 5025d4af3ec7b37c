pub mod Checked
pub mod Matching
pub mod Paired
