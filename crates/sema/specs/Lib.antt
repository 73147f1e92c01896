pub mod Fields
pub mod Holds
pub mod Signature
pub mod Texts
pub mod Types
