use Rattle.std.proofs.Common.{◌≡◌, ℕ, ◌+◌, ◌*◌, ◌<◌, length, get_or, take}
use Rattle.std.specs.List.{sum, sum_by}
use Rattle.kt_model.specs.Scratch.{chance_at}
use Rattle.kt_model.proofs.chances.add_damages.Given as goal

abbrev pub invariant-loop-damage : goal.invariant-loop-damage
invariant-loop-damage l = record {
  each : (bin : ℕ) → bin < length l.initial.chances → get_or l.chances bin 0 ≡ get_or l.initial.chances bin 0 + chance_at (take l.damage-index l.damages) l.prob (bin + 1);
  total : sum l.chances ≡ sum l.initial.chances + l.prob * sum_by (λ row. row.prob) (take l.damage-index l.damages);
}
