pub mod KeyEnds
pub mod RiseLaws
