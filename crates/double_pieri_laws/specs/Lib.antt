pub mod DoubleChains
