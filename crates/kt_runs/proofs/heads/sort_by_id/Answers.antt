use Rattle.std.proofs.Common.{rules}
use Rattle.std.proofs.lemmas.List.Sorted.{IsNonDecreasingBy-from_sort_by_key}
use Rattle.kt_runs.specs.declared.heads.LossHead.{LossHead}
use Rattle.kt_runs.proofs.heads.sort_by_id.Goals as goal

pub returns-clause-rising : goal.returns-clause-rising
returns-clause-rising c = IsNonDecreasingBy-from_sort_by_key (λ (head : LossHead). head.id) _ c.in_ok-sort_by_key.ensures.sorted (λ a r q k. search rules)
