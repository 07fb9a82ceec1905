pub mod Added
pub mod Limits
pub mod Folds
pub mod AddedLaws
pub mod FoldKeeps
pub mod ReadyParts
