-- The rows so far rise, and none of them is refused.
use Rattle.std.proofs.Common.{◌≡◌, take, drop}
use Rattle.kt_rec.specs.FootRows.{first_refused_row, refused_after}
use Rattle.kt_model.specs.Rising.{IsReached}
use Rattle.kt_model.proofs.rising_rows.rise_unrefused.Given as goal

abbrev pub invariant-loop-row : goal.invariant-loop-row
invariant-loop-row l = record {
  reached : IsReached (take l.row-index l.rows) l.reached;
  first : refused_after (take l.row-index l.rows) (drop l.row-index l.rows) ≡ first_refused_row l.rows;
}
