pub mod StripProduct
pub mod Columns
pub mod Rows
pub mod Room
pub mod Adding
pub mod BeadMoves
pub mod FamilyShapes
pub mod HookMoves
