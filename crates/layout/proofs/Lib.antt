pub mod Laws
pub mod Filling
pub mod Cuts
pub mod Groups
pub mod Read
