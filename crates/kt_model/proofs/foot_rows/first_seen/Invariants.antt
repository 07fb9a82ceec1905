use Rattle.std.proofs.Common.{◌≡◌, take, drop}
use Rattle.kt_rec.specs.FootRows.{first_refused_row, refused_after}
use Rattle.kt_model.specs.Seen.{IsSeen}
use Rattle.kt_model.proofs.foot_rows.first_seen.Given as goal

abbrev pub invariant-loop-index : goal.invariant-loop-index
invariant-loop-index l = record {
  seen : IsSeen (take l.index l.rows) l.seen;
  first : refused_after (take l.index l.rows) (drop l.index l.rows) ≡ first_refused_row l.rows;
}
