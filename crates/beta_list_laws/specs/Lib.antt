pub mod StrictFall
pub mod FullBetaList
pub mod LowestList
pub mod AlcoveEnd
pub mod ReductionLists
