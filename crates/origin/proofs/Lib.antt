pub mod NamesLaws
pub mod PieceOrigins
pub mod BlockOrigins
pub mod ItemOrigins
