-- Laws of the transition rule for the products of `transition_walk`, for each kind of label.
pub mod MonkLaws
pub mod ActedLaws
pub mod FactorLaws
