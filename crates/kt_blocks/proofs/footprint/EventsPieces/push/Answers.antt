use Rattle.kt_blocks.proofs.EventLines.{event-made}
use Rattle.kt_blocks.proofs.footprint.EventsPieces.push.Goals as goal

pub returns-in-Ok-clause-ok : goal.returns-in-Ok-clause-ok
returns-in-Ok-clause-ok c =
    event-made c.args.self.now.records.now c.args.self.now.index.now c.requires.ready c.slices_give_slices.ensures c.args.index _ c.slice-part.result.now c.args.out.now c.push_record_lines.new.out c.requires.within c.slice-part.ensures (rw c.from.ensures at c.in-Ok.ensures.ok)
