pub mod Read
pub mod Ended
