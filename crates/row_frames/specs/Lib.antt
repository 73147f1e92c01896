pub mod Arms
pub mod Patterns
pub mod Rows
pub mod Stack
pub mod StackLaws
pub mod Told
