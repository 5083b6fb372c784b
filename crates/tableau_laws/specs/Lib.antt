pub mod PaddedRows
pub mod Grid
pub mod ColumnFold
pub mod Rows
