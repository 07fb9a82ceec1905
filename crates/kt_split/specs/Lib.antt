pub mod ByEvents
pub mod SplitFacts
pub mod SplitRuns
pub mod RunNeeds
pub mod RunRows
pub mod RunDone
pub mod RunInParts
