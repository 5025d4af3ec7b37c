pub mod StepLaws
pub mod StepCandidates
pub mod StepCover
pub mod StepReads
