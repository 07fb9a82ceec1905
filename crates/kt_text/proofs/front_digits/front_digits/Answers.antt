use Rattle.std.proofs.Common.{◌≡◌, ◌≤◌, ◌∙◌, length, take, sym, arith}
use Rattle.std.specs.Char.{is_ascii_digit}
use Rattle.kt_text.specs.PlainText.{digits_before}
use Rattle.kt_text.proofs.DigitLemmas.{digits_test, front_steps}
use Rattle.kt_text.proofs.RunLemmas.{run-at, run-past}
use Rattle.kt_text.proofs.front_digits.front_digits.Goals as goal
use Rattle.kt_text.proofs.front_digits.front_digits.Goals.{then-count-eq-MOST-via-then-count-eq-MOST, then-count-eq-MOST-via-else-count-eq-MOST+then-not-is_ascii_digit}

pub overflow_mul-value : goal.overflow_mul-value
overflow_mul-value c = grind (arith, front_steps)

pub overflow_add-value : goal.overflow_add-value
overflow_add-value c = grind (arith, front_steps)

pub loop-count-preserved : goal.loop-count-preserved
loop-count-preserved c = grind (arith, front_steps)

pub returns-then-count-eq-MOST-clause-all : goal.returns-then-count-eq-MOST-clause-all
returns-then-count-eq-MOST-clause-all c =
    let text = c.args.text.now in
    let count = c.loop-count.count in
    let digits = digits_test.from (take count text) c.loop-count.invariant.2 in
    elim c.then-count-eq-MOST.branch [
      | then-count-eq-MOST-via-then-count-eq-MOST w ↦ (let past : count ≤ digits_before text = run-past is_ascii_digit text count digits (omega (arith, c.loop-count-test.true)) in omega (arith, past, w.if-count-eq-MOST.true))
      | then-count-eq-MOST-via-else-count-eq-MOST+then-not-is_ascii_digit w ↦ (let at : count ≡ digits_before text = run-at is_ascii_digit text count digits (omega (arith, c.loop-count-test.true)) (λ l. sym w.is_ascii_digit.ensures.value ∙ w.if-not-is_ascii_digit.true) in omega (arith, at, c.loop-count.invariant.0))
    ]

pub returns-clause-all : goal.returns-clause-all
returns-clause-all c =
    let text = c.args.text.now in
    let count = c.loop-count.count in
    let ends : count ≡ length text = omega (arith, c.loop-count-test.false) in
    let at : count ≡ digits_before text = run-at is_ascii_digit text count (digits_test.from (take count text) c.loop-count.invariant.2) (omega (arith, ends)) (λ l. absurd (omega (arith, l, ends))) in
    omega (arith, at, ends, c.loop-count.invariant.0)
