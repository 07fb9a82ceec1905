use Rattle.std.proofs.Common.{ℕ, take}
use Rattle.kt_fmtree.specs.Tree.{Tree}
use Rattle.kt_fmtree.specs.Carried.{AreCarried}
use Rattle.kt_fmtree.specs.Parts.{IsProgramme}
use Rattle.kt_levels.specs.Row.{HasRow}
use Rattle.kt_levels.proofs.row.row_of.Given as goal

abbrev pub invariant-loop-one : goal.invariant-loop-one
invariant-loop-one l = (tree : Tree) (loss : ℕ → ℕ) → IsProgramme tree l.programme → AreCarried tree loss l.programme l.levels → HasRow tree loss l.rule (take l.one-index l.layers) l.shares.items l.policies.items
