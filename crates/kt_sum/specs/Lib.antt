pub mod Summaries
pub mod Adding
pub mod RunSummaries
pub mod Totals
pub mod SetSums
pub mod Examples
