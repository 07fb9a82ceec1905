use Rattle.std.proofs.Common.{◌≡◌, take, drop}
use Rattle.std.specs.Prelude.{nat_lt}
use Rattle.kt_keys.specs.FirstRow.{first_where, first_refused_after}
use Rattle.kt_checks.proofs.values.first_late.Given as goal

abbrev pub invariant-loop-index : goal.invariant-loop-index
invariant-loop-index l =
    first_refused_after (λ _ row. nat_lt l.periods row.period_no) (take l.index l.rows) (drop l.index l.rows) ≡ first_where (λ row. nat_lt l.periods row.period_no) l.rows
