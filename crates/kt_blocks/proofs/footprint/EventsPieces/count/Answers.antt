use Rattle.kt_blocks.proofs.EventLines.{index-end}
use Rattle.kt_blocks.proofs.footprint.EventsPieces.count.Goals as goal

pub returns-clause-end : goal.returns-clause-end
returns-clause-end c = index-end _ c.args.self.now.index.now
