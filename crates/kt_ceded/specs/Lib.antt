pub mod CededShares
pub mod CededLaws
