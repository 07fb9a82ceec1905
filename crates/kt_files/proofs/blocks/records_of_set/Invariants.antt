-- The summaries so far are not those of the set.
use Rattle.std.proofs.Common.{◌≡◌, drop}
use Rattle.kt_files.specs.Parts.{records_of_set}
use Rattle.kt_files.proofs.blocks.records_of_set.Given as goal

abbrev pub invariant-loop-one : goal.invariant-loop-one
invariant-loop-one l = records_of_set l.set l.summaries ≡ records_of_set l.set (drop l.one-index l.summaries)
