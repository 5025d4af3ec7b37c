pub mod Cells
pub mod Room
pub mod Cover
pub mod Filling
