pub mod KeyLemmas
pub mod OnceLemmas
pub mod PlaceLemmas
