pub mod RankedLosses
pub mod Ranks
pub mod RankLaws
pub mod SelectLaws
pub mod AmountLists
