use Rattle.kt_kept_files.proofs.NamedFilesLemmas.{Sets-changed}
use Rattle.kt_out.proofs.memory.mem_outputs.MemOutputsOutputs.append.Goals as goal

pub returns-clause-moved : goal.returns-clause-moved
returns-clause-moved c = rw (← c.self.view_is) (Sets-changed _ _ _ _ c.in_ok-append.ensures.ok)
