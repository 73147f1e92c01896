pub mod Theorems
pub mod TokenLaws
pub mod TokenOrigins
pub mod ValueLaws
pub mod Accepted
pub mod ReadLaws
