pub mod Answered
pub mod Held
pub mod Texts
pub mod EntryLaws
