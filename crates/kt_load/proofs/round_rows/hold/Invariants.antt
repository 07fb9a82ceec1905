-- The events so far are held, and those that are left come behind them.
use Rattle.std.proofs.Common.{◌≡◌, ◌*◌, ◌≤◌, ◌++◌, drop, length}
use Rattle.kt_load.specs.Spans.{held_from}
use Rattle.kt_load.proofs.round_rows.hold.Given as goal

abbrev pub invariant-loop-event : goal.invariant-loop-event
invariant-loop-event l = record {
  whole : held_from 0 l.portfolio.rows l.events ≡ l.held.items ++ held_from l.at l.portfolio.rows (drop l.event-index l.events);
  length : length l.held.items ≡ l.event-index;
  few : l.at ≤ l.event-index * 100000;
}
