use Rattle.std.proofs.Common.{rules}
use Rattle.std.proofs.lemmas.Fn.{always_returns_same}
use Rattle.std.proofs.lemmas.List.Sorted.{IsNonDecreasingBy-from_sort_by_key}
use Rattle.kt_index.proofs.KeyLemmas.{kept-from_stable}
use Rattle.kt_index.proofs.by_key.ByKey.of_rows.Goals as goal

pub invariant_of-result-2 : goal.invariant_of-result-2
invariant_of-result-2 g c = IsNonDecreasingBy-from_sort_by_key g.T.Keyed.key_of _ c.in_ok-sort_by_key.ensures.sorted (λ a r q k. search rules)

pub returns-clause-kept : goal.returns-clause-kept
returns-clause-kept g c = λ wanted. kept-from_stable g.T.Keyed.key_of _ _ wanted (c.in_ok-sort_by_key.ensures.stable g.T.Keyed.key_of (always_returns_same _ _ _ (λ a r f k. search rules)))
