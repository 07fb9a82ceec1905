pub mod LossAtLemmas
pub mod SampleLemmas
pub mod Seen
mod LineLemmas
