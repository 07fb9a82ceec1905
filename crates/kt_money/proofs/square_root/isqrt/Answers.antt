-- What the bounds show to be the root is the root by recursion.
use Rattle.std.proofs.Common.{arith}
use Rattle.kt_money.specs.RoundingLaws.{root-from_is}
use Rattle.kt_money.proofs.square_root.isqrt.Goals as goal

pub returns-then-is_root-clause-value : goal.returns-then-is_root-clause-value
returns-then-is_root-clause-value c = root-from_is _ _ (grind arith)

pub returns-then-is_root-2-clause-value : goal.returns-then-is_root-2-clause-value
returns-then-is_root-2-clause-value c = root-from_is _ _ (grind arith)

pub returns-clause-value : goal.returns-clause-value
returns-clause-value c = root-from_is _ _ (grind arith)
