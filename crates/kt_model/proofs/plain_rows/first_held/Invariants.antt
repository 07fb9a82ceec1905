-- None of the rows so far is refused.
use Rattle.std.proofs.Common.{◌≡◌, ◌≤◌, ℕ, take, drop}
use Rattle.kt_rec.specs.FootRows.{areaperil_total, first_refused_row, refused_after}
use Rattle.kt_model.proofs.plain_rows.first_held.Given as goal

abbrev pub invariant-loop-index : goal.invariant-loop-index
invariant-loop-index l = record {
  first : refused_after (take l.index l.rows) (drop l.index l.rows) ≡ first_refused_row l.rows;
  within : (areaperil : ℕ) → areaperil_total (take l.index l.rows) areaperil ≤ 1001000;
}
