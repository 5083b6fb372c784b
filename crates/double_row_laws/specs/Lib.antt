pub mod ExchangedAlphabets
pub mod DoubleRows
pub mod SweptRows
