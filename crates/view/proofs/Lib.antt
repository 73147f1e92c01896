pub mod Laws
pub mod Made
pub mod Plans
pub mod Held
