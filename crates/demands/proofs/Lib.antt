pub mod Demand1
pub mod Demand2Items
mod SetLaws
pub mod Exported
pub mod Request01
pub mod Request02
