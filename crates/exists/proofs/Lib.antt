pub mod Sorts
pub mod Rows
pub mod Judged
pub mod Bytes
