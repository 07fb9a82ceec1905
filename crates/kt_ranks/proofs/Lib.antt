-- The modules of proofs for the ranks.
mod RankLemmas
mod RowLemmas
pub mod RowAmounts
pub mod ListsOfSamples
