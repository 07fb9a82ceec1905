pub mod WritingLemmas
pub mod AppendingLemmas
