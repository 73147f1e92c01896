pub mod Level
pub mod Reading
