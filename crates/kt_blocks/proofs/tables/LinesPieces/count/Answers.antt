use Rattle.kt_blocks.proofs.LineLemmas.{pieces-end}
use Rattle.kt_blocks.proofs.tables.LinesPieces.count.Goals as goal

pub returns-clause-end : goal.returns-clause-end
returns-clause-end g c = pieces-end _ c.args.self.now.kinds.now c.args.self.now.width c.args.self.now.records.now c.requires
