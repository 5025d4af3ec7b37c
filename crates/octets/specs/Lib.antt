pub mod Letters
pub mod Past
