pub mod Loading
pub mod Converting
pub mod SourceText
pub mod FootprintText
pub mod EventList
pub mod ModelOutcome
pub mod ModelStage
pub mod GulOutcome
