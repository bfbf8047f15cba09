pub mod RowTables
pub mod Rows
pub mod Changes
pub mod FilterRows
