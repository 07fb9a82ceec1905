pub mod GroupLemmas
pub mod IndexLemmas
pub mod PartLemmas
pub mod FileLineLemmas
pub mod ShownLemmas
