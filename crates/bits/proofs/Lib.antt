pub mod BitLaws
pub mod BitSets
