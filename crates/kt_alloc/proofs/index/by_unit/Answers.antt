use Rattle.std.proofs.Common.{◌≡◌, ℕ, List, nat_eq, IfOk, subst}
use Rattle.std.specs.List.{filter}
use Rattle.kt_alloc.specs.declared.index.UnitOutput.{UnitOutput}
use Rattle.kt_alloc.proofs.index.by_unit.Goals as goal

pub returns : goal.returns
returns c = record {
  kept = subst (λ (rows : List UnitOutput). IfOk c.of_rows.result (λ index. (key : ℕ) → filter (λ row. nat_eq row.agg_id key) index ≡ filter (λ row. nat_eq row.agg_id key) rows)) c.in_ok-rows.ensures.value c.of_rows.ensures.kept;
}
