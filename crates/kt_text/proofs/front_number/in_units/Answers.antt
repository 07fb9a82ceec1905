use Rattle.std.proofs.Common.{arith}
use Rattle.kt_text.proofs.PlainLemmas.{front_amounts}
use Rattle.kt_text.proofs.front_number.in_units.Goals as goal

pub overflow_mul-result : goal.overflow_mul-result
overflow_mul-result c = grind (arith, front_amounts)

pub overflow_add-result : goal.overflow_add-result
overflow_add-result c = grind (arith, front_amounts)

pub returns-clause-limit : goal.returns-clause-limit
returns-clause-limit c = grind (arith, front_amounts)
