use Rattle.std.proofs.Common.{◌≡◌, ◌+◌, ◌++◌, map, drop}
use Rattle.kt_rules.specs.Amounts.{total}
use Rattle.kt_fmtree.specs.Placed.{parts_from}
use Rattle.kt_fmtree.proofs.giving.push_losses.Given as goal

abbrev pub invariant-loop-at : goal.invariant-loop-at
invariant-loop-at l = l.parts.items ++ parts_from (l.start + l.at) (map total (drop l.at l.children)) ≡ l.fn.parts.items ++ parts_from l.start (map total l.children)
