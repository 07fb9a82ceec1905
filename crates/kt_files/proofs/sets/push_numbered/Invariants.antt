-- The sets so far stand behind the others.
use Rattle.std.proofs.Common.{◌≡◌, ◌++◌, map, take}
use Rattle.kt_block.specs.Terms.{summary_set}
use Rattle.kt_files.proofs.sets.push_numbered.Given as goal

abbrev pub invariant-loop-set : goal.invariant-loop-set
invariant-loop-set l = l.sets.items ≡ l.initial.sets.items ++ map (summary_set l.perspective) (take l.set-index l.numbers)
