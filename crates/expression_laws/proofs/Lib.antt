pub mod PhraseRuns
pub mod PhrasePrefixes
pub mod PhraseMarks
pub mod FirstOffences
pub mod SignRuns
