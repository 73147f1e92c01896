pub mod Terms
pub mod Tests
pub mod Within
