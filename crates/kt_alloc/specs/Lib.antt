pub mod Insured
pub mod Layout
pub mod Index
pub mod Outlets
pub mod Table
pub mod Whole
pub mod Examples
pub mod InsuredTables
