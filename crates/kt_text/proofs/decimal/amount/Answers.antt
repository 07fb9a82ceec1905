use Rattle.std.proofs.Common.{arith}
use Rattle.kt_text.proofs.ValueLemmas.{amount_cases}
use Rattle.kt_text.proofs.decimal.amount.Goals as goal

pub returns-then-digits-eq-TOO_MANY : goal.returns-then-digits-eq-TOO_MANY
returns-then-digits-eq-TOO_MANY c = grind (arith, amount_cases)

pub returns-then-exponent-eq-TOO_FAR : goal.returns-then-exponent-eq-TOO_FAR
returns-then-exponent-eq-TOO_FAR c = grind (arith, amount_cases)

pub returns : goal.returns
returns c = grind (arith, amount_cases)
