use Rattle.std.proofs.Common.{ℕ, ◌≡◌, ◌+◌, ◌*◌, ◌/◌, ◌^◌, ap, ◌∙◌, arith}
use Rattle.kt_damage.proofs.StepLemmas.{words_of}
use Rattle.kt_damage.proofs.steps.line_part.Goals as goal

none : (n : ℕ) → n ≡ n + 0
none n = omega arith

none_of : (n : ℕ) → n + 0 * 18446744073709551616 ≡ n
none_of n = omega arith

pub returns : goal.returns
returns c = record {
  value = ap (λ n. n / 9223372036854775808) (none _) ∙ (words_of c.from-value.result c.args.part 0 ∙ (ap (λ n. n / 2 ^ 127) (none_of (c.from-value.result * c.args.part)) ∙ ap (λ tiv. tiv * c.args.part / 2 ^ 127) c.from-value.ensures));
}
