-- The rows of the records so far are appended.
use Rattle.std.proofs.Common.{◌≡◌, ◌++◌, take}
use Rattle.std.specs.List.{flat_map}
use Rattle.kt_files.specs.Parts.{record_rows}
use Rattle.kt_files.specs.declared.file.SetTable.TheVariants.{PeriodLoss}
use Rattle.kt_files.proofs.blocks.push_period_losses.Given as goal

abbrev pub invariant-loop-entry : goal.invariant-loop-entry
invariant-loop-entry l = l.out ≡ l.initial.out ++ flat_map (record_rows l.samples l.portfolio.rows PeriodLoss) (take l.entry-index l.records)
