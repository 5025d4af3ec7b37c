pub mod Words
pub mod Slots
pub mod Lookup
pub mod Accepted
