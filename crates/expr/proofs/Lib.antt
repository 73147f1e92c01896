pub mod Loops
pub mod Bindings
pub mod Calls
pub mod Turns
