use Rattle.std.proofs.Common.{◌≡◌, ℕ, ◌+◌, ◌*◌, ◌≤◌, drop, take, Option}
use Rattle.kt_cells.specs.Lines.{IsFront, lines_with}
use Rattle.kt_cells.proofs.lines.write_lines.Given as goal

abbrev pub invariant-loop-row : goal.invariant-loop-row
invariant-loop-row g l = record {
  within : l.row ≤ l.count;
  room : l.row * (g.row.N * 24 + 22) ≤ l.at;
  inside : l.at ≤ 2400;
  written : (before : Option ℕ) → IsFront before l.front → drop l.at l.text ≡ lines_with before l.kinds (drop l.row (take l.count l.rows));
}

abbrev pub decreases-loop-row : goal.decreases-loop-row
decreases-loop-row g l = l.row
