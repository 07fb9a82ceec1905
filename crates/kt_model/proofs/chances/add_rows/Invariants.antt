use Rattle.std.proofs.Common.{◌≡◌, ℕ, ◌+◌, ◌*◌, ◌<◌, ◌≤◌, length, get_or, take}
use Rattle.std.specs.List.{sum, sum_by}
use Rattle.kt_model.specs.Scratch.{chance_in}
use Rattle.kt_model.proofs.chances.add_rows.Given as goal

abbrev pub invariant-loop-row : goal.invariant-loop-row
invariant-loop-row l = record {
  each : (bin : ℕ) → bin < length l.initial.chances → get_or l.chances bin 0 ≡ chance_in l.portfolio.rows (take l.row-index l.rows) l.vulnerability (bin + 1);
  total : sum l.chances ≤ 1001000 * sum_by (λ row. row.prob) (take l.row-index l.rows);
}
