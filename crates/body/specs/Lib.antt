pub mod Leads
pub mod Lines
pub mod Own
pub mod Told
pub mod Walks
pub mod Words
