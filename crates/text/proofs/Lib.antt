pub mod Copies
pub mod Signs
pub mod Filling
