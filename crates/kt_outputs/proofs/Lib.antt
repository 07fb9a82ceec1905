pub mod ListLemmas
pub mod CallLemmas
pub mod FileLemmas
pub mod MidwayLemmas
pub mod StepLemmas
mod HandLemmas
