mod SetLemmas
mod StageLemmas
mod BlockLemmas
