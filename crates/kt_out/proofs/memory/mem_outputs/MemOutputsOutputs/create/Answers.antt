use Rattle.kt_kept_files.proofs.NamedFilesLemmas.{Sets-changed}
use Rattle.kt_out.proofs.memory.mem_outputs.MemOutputsOutputs.create.Goals as goal

pub returns-clause-ok : goal.returns-clause-ok
returns-clause-ok c = rw (← c.self.view_is) (Sets-changed _ _ _ _ c.in_ok-put.ensures.ok)
