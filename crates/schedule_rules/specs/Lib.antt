pub mod Passes
pub mod Faults
pub mod Sheet
pub mod Found
pub mod Cases
