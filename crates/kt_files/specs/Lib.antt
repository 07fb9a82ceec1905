pub mod OutputFiles
pub mod Parts
pub mod Endings
pub mod EndTexts
pub mod Sublists
pub mod DistinctNames
pub mod Examples
pub mod MadeRows
