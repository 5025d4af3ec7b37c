pub mod Unfold
pub mod Spine
pub mod Unfolding
