pub mod Block
pub mod Closing
pub mod Laws
pub mod Context
pub mod Steps
