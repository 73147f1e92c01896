pub mod OwnLaws
pub mod Own
pub mod Middle
pub mod Row
pub mod Nesting
pub mod Stack
pub mod Frames
pub mod Loop
