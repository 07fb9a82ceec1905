use Rattle.std.proofs.Common.{arith, leb, length, rules, sym, ◌∙◌}
use Rattle.std.proofs.lemmas.List.Sorted.{IsPartitionPoint-from_clause, IsPartitionedBy-leb}
use Rattle.std.proofs.lemmas.Bool.{eqb-false}
use Rattle.kt_index.proofs.PlaceLemmas.{seen, upto_one}
use Rattle.kt_index.proofs.by_key.rows_upto.Goals as goal
use Rattle.kt_index.proofs.by_key.rows_upto.Goals.{then-rows-eq1-via-then-rows-eq1, then-rows-eq1-via-else-rows-eq1+then-key-top-2}

pub returns-then-rows-eq1-clause-value : goal.returns-then-rows-eq1-clause-value
returns-then-rows-eq1-clause-value g c =
    let key = g.T.Keyed.key_of in
    let rows = c.args.rows.now in
    let some = eqb-false (length rows) 0 (sym c.is_empty.ensures ∙ c.if-is_empty.false) in
    upto_one key rows c.requires.rising c.args.top
    (λ d. omega (arith, seen key rows 0 _ (omega arith) c.index-rows-0.is c.key.result c.key.ensures.value d, c.if-key-top.false))
    (λ d more. elim c.then-rows-eq1.branch [
      | then-rows-eq1-via-then-rows-eq1 w ↦ absurd (omega (arith, w.if-rows-eq1.true))
      | then-rows-eq1-via-else-rows-eq1+then-key-top-2 w ↦ omega (arith, seen key rows 1 _ more w.index-rows-1.is w.key-else-rows-eq1.result w.key-else-rows-eq1.ensures.value d, w.if-key-top-2.true)
    ])
    (omega arith)

pub returns-clause-value : goal.returns-clause-value
returns-clause-value g c =
    let key = g.T.Keyed.key_of in
    IsPartitionPoint-from_clause (λ row. leb (key row) c.args.top) _ _ c.partition_point.ensures.partitioned (IsPartitionedBy-leb key c.args.rows.now c.args.top c.requires.rising) (λ a r q k. search rules)
