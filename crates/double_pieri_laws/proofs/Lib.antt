pub mod DoubleChainSums
pub mod DoublePieri
pub mod UnmovedLetters
pub mod DoublePieriLaw
