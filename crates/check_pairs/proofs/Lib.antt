pub mod StepLaws
pub mod Paced
pub mod Passed
pub mod MatchLaws
pub mod CheckLaws
pub mod Results
