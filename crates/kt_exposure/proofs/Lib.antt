pub mod CoverLemmas
pub mod TotalLemmas
