-- Laws of reduced products: by rim hooks, and into the alcove.
pub mod StepLaws
pub mod SignLaws
pub mod QuantumLaws
pub mod FusionLaws
