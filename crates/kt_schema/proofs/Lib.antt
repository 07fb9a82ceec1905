pub mod IndexLemmas
pub mod FootprintLemmas
pub mod FileLemmas
pub mod CanonLemmas
pub mod SinkLemmas
pub mod LoadingLemmas
