pub mod Cell
pub mod Fill
pub mod Built
