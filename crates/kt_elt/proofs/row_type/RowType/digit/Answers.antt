-- A number below ten is one digit.
use Rattle.std.proofs.Common.{arith}
use Rattle.std.proofs.lemmas.Fmt.{decimal_digit}
use Rattle.kt_elt.proofs.row_type.RowType.digit.Goals as goal

pub returns-in-Analytical : goal.returns-in-Analytical
returns-in-Analytical c = record { value = rw c.in-Analytical.is (decimal_digit 1 (omega arith)) }

pub returns-in-Sample : goal.returns-in-Sample
returns-in-Sample c = record { value = rw c.in-Sample.is (decimal_digit 2 (omega arith)) }
