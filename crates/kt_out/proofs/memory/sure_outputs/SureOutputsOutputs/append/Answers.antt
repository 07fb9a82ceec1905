use Rattle.std.proofs.Common.{length, arith}
use Rattle.std.proofs.lemmas.List.{take_all}
use Rattle.kt_kept_files.proofs.NamedFilesLemmas.{Sets-changed}
use Rattle.kt_out.proofs.memory.sure_outputs.SureOutputsOutputs.append.Goals as goal

pub returns-clause-moved : goal.returns-clause-moved
returns-clause-moved c =
    let piece = c.args.piece.now in
    rw (← c.self.view_is, take_all (length piece) piece (omega arith)) (Sets-changed _ _ _ _ c.in_ok-append.ensures.ok)
