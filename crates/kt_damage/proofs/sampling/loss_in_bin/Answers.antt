-- The products stay within their types.
use Rattle.std.proofs.Common.{◌≡◌, ◌≤◌, ◌+◌, ◌-◌, ◌*◌, ℕ, ◌∙◌, arith, subst, sym}
use Rattle.std.proofs.lemmas.Nat.{mul-le}
use Rattle.kt_money.specs.Rounding.{half_up}
use Rattle.kt_damage.proofs.SampleLemmas.{damage_within, part_within}
use Rattle.kt_damage.proofs.sampling.loss_in_bin.Goals as goal

pub overflow_mul-damage : goal.overflow_mul-damage
overflow_mul-damage c =
    let first = mul-le c.from.result (c.args.upto - c.args.before) 1000000 1002001000000 (omega arith) (omega arith) in
    omega arith

pub overflow_mul-damage-2 : goal.overflow_mul-damage-2
overflow_mul-damage-2 c =
    let second = mul-le c.from-2.result (c.args.number - c.args.before) 1000000 1002001000000 (omega arith) (omega arith) in
    omega arith

pub overflow_add-damage : goal.overflow_add-damage
overflow_add-damage c =
    let first = mul-le c.from.result (c.args.upto - c.args.before) 1000000 1002001000000 (omega arith) (omega arith) in
    let second = mul-le c.from-2.result (c.args.number - c.args.before) 1000000 1002001000000 (omega arith) (omega arith) in
    omega arith

pub overflow_mul-from : goal.overflow_mul-from
overflow_mul-from c =
    let first = mul-le c.from.result (c.args.upto - c.args.before) 1000000 1002001000000 (omega arith) (omega arith) in
    let second = mul-le c.from-2.result (c.args.number - c.args.before) 1000000 1002001000000 (omega arith) (omega arith) in
    let whole = mul-le c.from-3.result c.from-4.result 100000000000000 2004002000000000000 (omega arith) (omega arith) in
    omega arith

pub div_half_up-requires-clause-dividend : goal.div_half_up-requires-clause-dividend
div_half_up-requires-clause-dividend c =
    let first = mul-le c.from.result (c.args.upto - c.args.before) 1000000 1002001000000 (omega arith) (omega arith) in
    let second = mul-le c.from-2.result (c.args.number - c.args.before) 1000000 1002001000000 (omega arith) (omega arith) in
    let whole = mul-le c.from-3.result c.from-4.result 100000000000000 2004002000000000000 (omega arith) (omega arith) in
    omega arith

pub overflow_cast-result : goal.overflow_cast-result
overflow_cast-result c =
    let width = c.args.upto - c.args.before in
    let over = c.args.number - c.args.before in
    let damage : c.from-4.result ≡ c.args.low * width + (c.args.high - c.args.low) * over = c.from-4.ensures ∙ (λ j. c.from.ensures j * width + (c.from-2.ensures ∙ c.saturating_sub.ensures) j * over) in
    let within = damage_within c.args.low c.args.high width over (omega arith) (omega arith) (omega arith) in
    let part = part_within c.from-3.result c.from-4.result c.from-5.result (omega arith) (omega arith) in
    let most : c.div_half_up.result ≤ c.from-3.result = subst (λ (loss : ℕ). loss ≤ c.from-3.result) (sym c.div_half_up.ensures.value) part in
    omega arith

pub returns : goal.returns
returns c =
    let width = c.args.upto - c.args.before in
    let over = c.args.number - c.args.before in
    let damage : c.from-4.result ≡ c.args.low * width + (c.args.high - c.args.low) * over = c.from-4.ensures ∙ (λ j. c.from.ensures j * width + (c.from-2.ensures ∙ c.saturating_sub.ensures) j * over) in
    record { value = c.div_half_up.ensures.value ∙ (λ j. half_up (c.from-3.ensures j * damage j) (c.from-5.ensures j)) }
