use Rattle.kt_losses.proofs.ToolLemmas.{entries_are_losses}
use Rattle.kt_losses.proofs.insured.InsuredLossesLossTool.put_run.Goals as goal

pub put_insured-requires-clause-records : goal.put_insured-requires-clause-records
put_insured-requires-clause-records c = entries_are_losses c.args.head.samples c.args.run.now c.requires.good
