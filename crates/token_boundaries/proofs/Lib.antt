pub mod Theorems
pub mod BoundaryLaws
pub mod LexingLaws
pub mod ExprBoundaries
pub mod BlockBoundaries
pub mod TokenBoundaries
