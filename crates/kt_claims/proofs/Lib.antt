mod DealingLemmas
pub mod NumberLemmas
pub mod ArrivalLemmas
