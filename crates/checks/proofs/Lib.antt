pub mod Every
pub mod Blocks
pub mod Bytes
pub mod Counts
pub mod Lists
pub mod Marks
pub mod Tests
pub mod Runs
