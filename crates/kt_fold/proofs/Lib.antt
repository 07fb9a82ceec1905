mod ListLemmas
mod ReadyLemmas
mod FoldLemmas
mod TakeLemmas
