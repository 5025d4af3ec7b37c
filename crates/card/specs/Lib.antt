pub mod Productions
pub mod Names
pub mod Checks
pub mod Spelled
