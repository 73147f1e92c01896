pub mod EmitsLaws
pub mod Sources
