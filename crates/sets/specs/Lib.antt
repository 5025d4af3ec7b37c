pub mod Places
pub mod Classes
pub mod Spans
pub mod Like
