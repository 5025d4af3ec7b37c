pub mod Appending
pub mod Decimal
pub mod Rows
pub mod Examples
