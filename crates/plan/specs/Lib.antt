pub mod Binding
pub mod Constraint
pub mod Row
pub mod Plan
pub mod Layout
pub mod Lookup
pub mod Refusal
