pub mod Words
pub mod Value
pub mod Cell
pub mod Writes
pub mod Items
pub mod Lists
