pub mod Agreeing
pub mod RowWords
pub mod RowTableaux
pub mod RowFold
pub mod RowFilling
pub mod RowRounds
pub mod RowPruning
mod Tables
mod CountedStates
mod Raising
pub mod LetterSums
pub mod Results
pub mod Ranges
mod ColumnExtension
mod Steps
mod Reaching
mod ColumnsOfCounts
mod Heights
mod Rounds
pub mod Sums
pub mod Pruned
mod FreeLetters
mod CountedLists
pub mod GoodCounts
mod NoRoom
pub mod Placed
mod PastCoefficients
mod ManyStarts
pub mod Partial
mod NothingLeft
mod ExchangedFactors
pub mod RangeSums
mod LastRow
mod LockStep
mod Windows
