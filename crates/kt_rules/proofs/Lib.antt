pub mod ProfileLemmas
pub mod EachLemmas
