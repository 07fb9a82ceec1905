pub mod ChanceLemmas
pub mod AddLemmas
pub mod BinLemmas
pub mod RecordLemmas
pub mod SeenLemmas
pub mod JudgeLemmas
mod Worked
pub mod PairLemmas
pub mod TotalLemmas
pub mod OneRunLemmas
