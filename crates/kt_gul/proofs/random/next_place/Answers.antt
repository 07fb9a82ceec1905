use Rattle.std.proofs.Common.{ℕ, ◌+◌, ◌-◌, ◌*◌, ◌%◌, arith, ap, ◌∙◌}
use Rattle.kt_gul.proofs.RandomLemmas.{next_within, next_around}
use Rattle.kt_gul.proofs.random.next_place.Goals as goal

pub returns-then-place-numbers-clause-value : goal.returns-then-place-numbers-clause-value
returns-then-place-numbers-clause-value c = λ event group sample is.
    let x : ℕ = (event * 1543270363 + group * 1943272559) % c.args.numbers + (sample + 1) - 1 in
    let last = c.if-place-numbers.true in
    next_around c.args.numbers x c.args.place is (omega arith) (omega arith) ∙ ap (λ y. y % c.args.numbers) (omega arith)

pub returns-else-place-numbers-clause-value : goal.returns-else-place-numbers-clause-value
returns-else-place-numbers-clause-value c = λ event group sample is.
    let x : ℕ = (event * 1543270363 + group * 1943272559) % c.args.numbers + (sample + 1) - 1 in
    let other = c.if-place-numbers.false in
    let within = c.requires.within in
    next_within c.args.numbers x c.args.place is (omega arith) ∙ ap (λ y. y % c.args.numbers) (omega arith)
