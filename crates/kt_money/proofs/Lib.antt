pub mod SpreadLemmas
pub mod WeightedLemmas
pub mod DecimalLemmas
