pub mod Fits
pub mod Candidates
