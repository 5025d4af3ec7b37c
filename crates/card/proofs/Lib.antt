pub mod Laws
pub mod Accepted
pub mod FieldLaws
pub mod NameLaws
