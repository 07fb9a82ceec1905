use Rattle.std.proofs.Common.{arith}
use Rattle.kt_text.proofs.PlainLemmas.{front_amounts}
use Rattle.kt_text.proofs.PlainRowLemmas.{front_fields}
use Rattle.kt_text.proofs.front_number.front_amount.Goals as goal

pub returns-then-not-begins_with_point-clause-field : goal.returns-then-not-begins_with_point-clause-field
returns-then-not-begins_with_point-clause-field c = grind (arith, front_fields)

pub returns-then-not-begins_with_point-clause-value : goal.returns-then-not-begins_with_point-clause-value
returns-then-not-begins_with_point-clause-value c = grind (arith, front_amounts)

pub returns-clause-field : goal.returns-clause-field
returns-clause-field c = grind (arith, front_fields)

pub returns-clause-value : goal.returns-clause-value
returns-clause-value c = grind (arith, front_amounts)
