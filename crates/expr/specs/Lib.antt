pub mod Between
pub mod Call
pub mod Lower
pub mod Next
pub mod Told
pub mod Writes
