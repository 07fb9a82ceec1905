use Rattle.std.proofs.Common.{◌<◌, length, arith, ◌∙◌}
use Rattle.kt_outputs.proofs.StepLemmas.{create_more, create_stops}
use Rattle.kt_outputs.proofs.creating.create_files.Goals as goal

pub returns-in-Err-clause-made : goal.returns-in-Err-clause-made
returns-in-Err-clause-made g c =
    let within : c.loop-file.file-index < length c.args.files.now = omega arith in
    create_stops g.F.Named.name c.args.files.now c.requires.distinct c.loop-file.file-index c.file-item.result within c.file-item.is _ _ _ _ c.in-Err.fault c.loop-file.invariant.made c.in-Err.ensures.moved

pub loop-file-preserved : goal.loop-file-preserved
loop-file-preserved g c =
    let within : c.loop-file.file-index < length c.args.files.now = omega arith in
    record {
      made = create_more g.F.Named.name c.args.files.now c.requires.distinct c.loop-file.file-index c.file-item.result within c.file-item.is _ _ _ _ c.loop-file.invariant.made c.in-Ok.ensures.moved;
      counted = c.in-Ok.ensures.counts ∙ c.loop-file.invariant.counted;
    }
