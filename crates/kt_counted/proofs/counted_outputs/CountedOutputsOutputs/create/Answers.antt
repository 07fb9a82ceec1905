use Rattle.kt_kept_files.proofs.NamedFilesLemmas.{Sets-changed}
use Rattle.kt_counted.proofs.counted_outputs.CountedOutputsOutputs.create.Goals as goal

pub returns-clause-ok : goal.returns-clause-ok
returns-clause-ok c = Sets-changed _ _ _ _ c.in_ok-empty.ensures.ok
