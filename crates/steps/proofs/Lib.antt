pub mod Calls
pub mod HeadLaws
pub mod CheckLaws
pub mod LetLaws
pub mod SmallLaws
