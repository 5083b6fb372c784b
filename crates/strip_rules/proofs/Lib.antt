pub mod MarkedPlaces
pub mod SplitCounts
pub mod Placings
pub mod ColumnArrangements
pub mod ShapeCounts
mod ColumnRows
mod ColumnSums
mod DivisionSteps
mod AddedCells
mod PlacingSteps
mod RowTables
mod Values
pub mod TermsAdded
pub mod BeadLists
pub mod CellMoves
pub mod BeadShapes
pub mod BeadSums
pub mod BeadSteps
pub mod ShapeLists
pub mod Signs
pub mod TermProducts
pub mod ListProducts
pub mod HookMoves
