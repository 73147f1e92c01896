pub mod ReadBackLaws
pub mod ReadBack
pub mod CastLaws
pub mod Escapes
