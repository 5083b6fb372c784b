pub mod OneReading
pub mod Reading
pub mod Words
pub mod FirstWords
pub mod WrittenRows
pub mod JudgedRows
