use Rattle.std.proofs.Common.{ℕ, ◌≡◌, ◌*◌, ◌/◌, sym, ap, ◌∙◌, arith}
use Rattle.std.proofs.Math.Nat.{zero-div, mul-div_cancel}
use Rattle.kt_gul.proofs.cut.part_to.Goals as goal

nothing : (n : ℕ) → n * 0 ≡ 0
nothing n = omega arith

pub returns-then-upto-eq0 : goal.returns-then-upto-eq0
returns-then-upto-eq0 c = record { value = rw c.if-upto-eq0.true (sym (ap (λ n. n / c.args.total) (nothing c.args.tiv) ∙ zero-div c.args.total)) }

pub returns-then-upto-total : goal.returns-then-upto-total
returns-then-upto-total c = record { value = rw c.if-upto-total.true (sym (mul-div_cancel c.args.tiv {n = c.args.total} (omega arith))) }
