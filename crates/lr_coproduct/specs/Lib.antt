pub mod PairTerms
pub mod InnerShapeList
pub mod SkewLists
