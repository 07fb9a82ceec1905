use Rattle.std.proofs.Common.{arith}
use Rattle.kt_text.proofs.DigitLemmas.{digit_byte, value_after-more}
use Rattle.kt_text.proofs.digits.capped_value.Goals as goal

pub overflow_sub-digit : goal.overflow_sub-digit
overflow_sub-digit c = omega (arith, digit_byte _ _ c.loop-digit-test.true c.requires.digits)

pub loop-digit-preserved : goal.loop-digit-preserved
loop-digit-preserved c =
    omega (arith, value_after-more c.args.start c.args.digits.now c.loop-digit.digit-index c.loop-digit-test.true, digit_byte _ _ c.loop-digit-test.true c.requires.digits, c.loop-digit.invariant)
