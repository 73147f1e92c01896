pub mod Place
pub mod Emits
pub mod Rows
pub mod Marks
pub mod Sinks
pub mod Runs
pub mod Emitted
