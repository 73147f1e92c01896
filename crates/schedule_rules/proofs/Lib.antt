pub mod Laws
pub mod SheetLaws
pub mod Room
pub mod Found
