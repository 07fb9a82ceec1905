use Rattle.std.proofs.Common.{rules, ltb}
use Rattle.std.proofs.lemmas.List.Sorted.{IsPartitionPoint-from_clause, IsPartitionedBy-ltb}
use Rattle.kt_index.proofs.by_key.rows_below.Goals as goal

pub returns-clause-value : goal.returns-clause-value
returns-clause-value g c =
    let key = g.T.Keyed.key_of in
    IsPartitionPoint-from_clause (λ row. ltb (key row) c.args.low) _ _ c.partition_point.ensures.partitioned (IsPartitionedBy-ltb key c.args.rows.now c.args.low c.requires.rising) (λ a r q k. search rules)
