pub mod NeedLemmas
pub mod Running
pub mod TableEnds
mod GeneratedLemmas
pub mod DueLemmas
