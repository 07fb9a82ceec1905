use Rattle.std.proofs.Common.{rules, ltb}
use Rattle.std.proofs.lemmas.List.Sorted.{IsPartitionPoint-from_clause, IsPartitionedBy-ltb}
use Rattle.kt_stream.specs.declared.entry.Bin.{Bin}
use Rattle.kt_damage.proofs.SampleLemmas.{bins_rise}
use Rattle.kt_damage.proofs.sampling.place_of.Goals as goal

pub returns-clause-value : goal.returns-clause-value
returns-clause-value c =
    IsPartitionPoint-from_clause (λ (b : Bin). ltb b.prob_to c.args.least) _ _ c.partition_point.ensures.partitioned
    (IsPartitionedBy-ltb (λ (b : Bin). b.prob_to) c.args.bins.now c.args.least (bins_rise 0 c.args.bins.now c.requires)) (λ a r q k. search rules)
