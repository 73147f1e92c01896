pub mod Theorems
pub mod PlanBytes
pub mod SplitArms
pub mod Openings
pub mod Walk
pub mod Enclosed
