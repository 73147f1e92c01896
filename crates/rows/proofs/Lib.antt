pub mod Laws
pub mod Decode
pub mod DecodeBlock
pub mod Size
pub mod Numbers
