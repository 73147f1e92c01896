pub mod Buffer
pub mod Loops
pub mod ReturnLines
pub mod Small
pub mod Rows
