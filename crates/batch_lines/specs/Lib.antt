pub mod Feeds
pub mod Piece
pub mod Reading
pub mod Heard
pub mod Ends
pub mod Parts
pub mod Totals
