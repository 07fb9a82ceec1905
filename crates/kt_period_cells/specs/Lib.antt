pub mod Outcomes
pub mod RowCells
pub mod Rows
pub mod Journal
pub mod SummaryRows
pub mod Room
pub mod CellKeys
