pub mod WholeTables
pub mod Stepping
