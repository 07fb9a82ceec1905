use Rattle.std.proofs.Common.{rules, ltb}
use Rattle.std.proofs.lemmas.List.Sorted.{IsPartitionPoint-from_clause, IsPartitionedBy-ltb}
use Rattle.kt_rec.specs.declared.hazard.FootRow.{FootRow}
use Rattle.kt_model.proofs.PairLemmas.{none_behind, none_between, next_least}
use Rattle.kt_model.proofs.pairs.next_areaperil.Goals as goal

pub returns-then-start-rows-clause-none : goal.returns-then-start-rows-clause-none
returns-then-start-rows-clause-none c = λ none areaperil from.
    let rows = c.args.rows.now in
    let parted = IsPartitionPoint-from_clause (λ (row : FootRow). ltb row.areaperil c.args.least) _ _ c.partition_point-start.ensures.partitioned (IsPartitionedBy-ltb (λ (row : FootRow). row.areaperil) rows c.args.least c.requires.rising) (λ a r q k. search rules) in
    none_behind rows c.args.least c.partition_point-start.result parted (search rules) areaperil from

pub returns-clause-some : goal.returns-clause-some
returns-clause-some c =
    let rows = c.args.rows.now in
    let none : FootRow = record { areaperil = 0; intensity = 0; prob = 0 } in
    let parted = IsPartitionPoint-from_clause (λ (row : FootRow). ltb row.areaperil c.args.least) _ _ c.partition_point-start.ensures.partitioned (IsPartitionedBy-ltb (λ (row : FootRow). row.areaperil) rows c.args.least c.requires.rising) (λ a r q k. search rules) in
    (next_least rows c.args.least c.partition_point-start.result parted none (search rules), none_between rows c.args.least c.partition_point-start.result parted none (search rules) c.requires.rising)
