pub mod Lexing
pub mod Boundary
pub mod PieceBoundaries
