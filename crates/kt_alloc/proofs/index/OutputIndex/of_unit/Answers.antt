use Rattle.std.proofs.Common.{◌∙◌, ℕ, ap, nat_eq, subst, sym}
use Rattle.std.specs.List.{filter}
use Rattle.std.specs.List.Sorted.{IsNonDecreasingBy}
use Rattle.kt_alloc.specs.declared.index.UnitOutput.{UnitOutput}
use Rattle.kt_alloc.proofs.index.OutputIndex.of_unit.Goals as goal

pub rows_near-found-requires : goal.rows_near-found-requires
rows_near-found-requires c = subst (IsNonDecreasingBy (λ (row : UnitOutput). row.agg_id)) (sym c.as_slice.ensures.value) c.as_slice.ensures.rising

pub returns : goal.returns
returns c = record {
  value =
      c.rows_near-found.ensures.value
      ∙ (ap (λ (unit : ℕ). filter (λ (row : UnitOutput). nat_eq row.agg_id unit) c.as_slice.result.now) c.from.ensures
      ∙ ap (filter (λ (row : UnitOutput). nat_eq row.agg_id c.args.unit)) c.as_slice.ensures.value);
}
