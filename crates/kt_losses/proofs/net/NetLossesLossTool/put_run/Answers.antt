use Rattle.kt_losses.proofs.ToolLemmas.{entries_are_losses, one_or_two}
use Rattle.kt_losses.proofs.net.NetLossesLossTool.put_run.Goals as goal

pub put_net-requires-clause-rule : goal.put_net-requires-clause-rule
put_net-requires-clause-rule c = one_or_two c.args.self.now.rule c.requires.serves.0.0 c.requires.serves.0.1

pub put_net-requires-clause-records : goal.put_net-requires-clause-records
put_net-requires-clause-records c = entries_are_losses c.args.head.samples c.args.run.now c.requires.good
