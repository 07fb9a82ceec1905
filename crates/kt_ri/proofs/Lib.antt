pub mod PlaceLemmas
pub mod FewLemmas
pub mod CededLemmas
pub mod NetLemmas
mod SidxRowLemmas
pub mod LeftLemmas
pub mod WrittenLemmas
pub mod StageLemmas
pub mod StruckLemmas
