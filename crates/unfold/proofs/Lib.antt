pub mod Waiting
pub mod Turns
pub mod Spines
pub mod Opening
pub mod Joining
pub mod Starting
pub mod Whole
