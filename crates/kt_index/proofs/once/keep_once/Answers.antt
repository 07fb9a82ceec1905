use Rattle.std.proofs.Common.{sym, nat_eq, ◌∙◌}
use Rattle.std.proofs.lemmas.List.Filters.{dedup_is}
use Rattle.std.proofs.lemmas.List.Sorted.{list_any-IsPermutation}
use Rattle.kt_index.proofs.OnceLemmas.{once_rising, once_same}
use Rattle.kt_index.proofs.once.keep_once.Goals as goal

pub returns-clause-same : goal.returns-clause-same
returns-clause-same c = λ id. rw (dedup_is _ _ _ c.dedup.ensures.filtered) (once_same _ id ∙ sym (list_any-IsPermutation (nat_eq id) _ _ c.sort_unstable.ensures.permutation))

pub returns-clause-rising : goal.returns-clause-rising
returns-clause-rising c = rw (dedup_is _ _ _ c.dedup.ensures.filtered) (once_rising _ c.sort_unstable.ensures.sorted)
