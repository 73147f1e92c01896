pub mod Cells
pub mod Row
pub mod View
pub mod Kinds
pub mod Table
