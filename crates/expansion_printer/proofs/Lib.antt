-- Lemmas about printed texts: how they are collected in a buffer, and the texts of terms, rows and tableaux.
pub mod Texts
pub mod PrintableTerms
pub mod RowTexts
pub mod ReadingCells
pub mod TableauRows
pub mod LineTexts
pub mod GatheringLaws
pub mod CollectedLines
