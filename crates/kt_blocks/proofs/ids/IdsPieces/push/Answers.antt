use Rattle.std.proofs.lemmas.List.{take_rest}
use Rattle.kt_blocks.proofs.IdLemmas.{ids-made}
use Rattle.kt_blocks.proofs.ids.IdsPieces.push.Goals as goal

pub returns-in-Ok-clause-ok : goal.returns-in-Ok-clause-ok
returns-in-Ok-clause-ok c = ids-made c.args.self.now.ids.now c.args.index c.args.out.now c.append_ids.new.out (rw (c.ids_of.ensures, take_rest) at c.in-Ok.ensures)
