pub mod Goals
pub mod Shown
