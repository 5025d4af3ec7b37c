pub mod Sheet
pub mod Promise
pub mod Placed
pub mod Answered
pub mod Reading
