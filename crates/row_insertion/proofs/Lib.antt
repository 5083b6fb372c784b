pub mod GrowingRows
pub mod ShrinkingRows
pub mod Overwriting
pub mod MadeTableaux
pub mod WordRuns
