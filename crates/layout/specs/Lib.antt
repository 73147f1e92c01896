pub mod Scan
pub mod Filling
pub mod View
