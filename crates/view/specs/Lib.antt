pub mod Index
pub mod Tables
pub mod Told
pub mod BlockRows
pub mod Buffers
pub mod Bytes
pub mod Kinds
