-- The records are those of the items so far.
use Rattle.std.proofs.Common.{◌+◌, ◌-◌, length}
use Rattle.kt_gul.specs.Coverage.{IsScratch}
use Rattle.kt_gul.specs.Groups.{AreDone}
use Rattle.kt_gul.proofs.event.put_groups.Given as goal

abbrev pub invariant-loop-start : goal.invariant-loop-start
invariant-loop-start g l = record {
  done : AreDone g.E.Exit.spelled l.portfolio.rows l.fn.draw.samples l.fn.draw.cut l.fn.draw.event l.cdfs l.struck l.start (g.E.Exit.pieces l.fn.exit) (g.E.Exit.pieces l.exit);
  takes : g.E.Exit.takes l.fn.draw.samples l.exit;
  scratch : IsScratch (l.fn.draw.samples + 2) l.scratch;
}

abbrev pub decreases-loop-start : goal.decreases-loop-start
decreases-loop-start g l = length l.struck - l.start
