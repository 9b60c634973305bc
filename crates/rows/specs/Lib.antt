pub mod Rows
pub mod RowLaws
