-- The distributions so far are those of the pairs so far.
use Rattle.std.proofs.Common.{◌≡◌, ◌≤◌, ◌-◌, ◌++◌, take, length}
use Rattle.std.specs.List.{filter_map, flat_map}
use Rattle.kt_model.specs.Distribution.{record_of}
use Rattle.kt_model.specs.Scratch.{IsReady}
use Rattle.kt_model.proofs.event.put_struck.Given as goal

abbrev pub invariant-loop-place : goal.invariant-loop-place
invariant-loop-place g l = record {
  ready : IsReady l.portfolio.rows l.scratch;
  within : l.place ≤ length l.pairs;
  pieces : g.E.Exit.pieces l.exit ≡ g.E.Exit.pieces l.fn.exit ++ flat_map g.E.Exit.spelled (filter_map (record_of l.portfolio.rows l.event l.foot) (take l.place l.pairs));
}

abbrev pub decreases-loop-place : goal.decreases-loop-place
decreases-loop-place g l = length l.pairs - l.place
