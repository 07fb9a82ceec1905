use Rattle.std.proofs.Common.{length, arith}
use Rattle.std.proofs.lemmas.List.{take_all}
use Rattle.kt_kept_files.proofs.NamedFilesLemmas.{Sets-changed}
use Rattle.kt_counted.proofs.counted_outputs.CountedOutputsOutputs.append.Goals as goal

pub returns-clause-moved : goal.returns-clause-moved
returns-clause-moved c =
    let piece = c.args.piece.now in
    rw (take_all (length piece) piece (omega arith)) (Sets-changed _ _ _ _ c.in_ok-extend.ensures.ok)
