use Rattle.std.proofs.Common.{arith, ◌∙◌}
use Rattle.kt_out.specs.declared.fault.Fault.{Fault}
use Rattle.kt_out.specs.declared.fault.Fault.TheVariants.{OutOfMemory}
use Rattle.kt_outputs.specs.Texts.{text_of}
use Rattle.kt_outputs.proofs.HandLemmas.{hands_of_group}
use Rattle.kt_outputs.proofs.StepLemmas.{stops_midway}
use Rattle.kt_outputs.proofs.beside.append_texts_beside.Goals as goal

pub returns-in_default-clause-made : goal.returns-in_default-clause-made
returns-in_default-clause-made g c start are text =
    stops_midway g.F.Named.name c.args.files.now c.loop-first.first _ _ Fault Fault OutOfMemory text (text_of g.T.Texts.pieces_of start c.args.texts.now) (c.loop-first.invariant.made start are text)

pub returns-in-Err-clause-made : goal.returns-in-Err-clause-made
returns-in-Err-clause-made g c start are text =
    let more = text_of g.T.Texts.pieces_of start c.args.texts.now in
    c.in-Err.ensures.made start (g.O.Outputs.state c.args.outputs.now) text are
    (hands_of_group more c.args.files.now c.loop-first.first c.files_of-count.result _ _ c.as_mut_slice.ensures.value (c.in-Ok.ensures.value start are))
    (c.loop-first.invariant.made start are text)

pub loop-first-preserved : goal.loop-first-preserved
loop-first-preserved g c = record {
  within = omega (arith, c.files_of-count.ensures.value, c.loop-first-test.true);
  made = λ start are text.
      let more = text_of g.T.Texts.pieces_of start c.args.texts.now in
      c.in-Ok-append_group.ensures.made start (g.O.Outputs.state c.args.outputs.now) text are
      (hands_of_group more c.args.files.now c.loop-first.first c.files_of-count.result _ _ c.as_mut_slice.ensures.value (c.in-Ok.ensures.value start are))
      (c.loop-first.invariant.made start are text);
  counted = c.in-Ok-append_group.ensures.counts ∙ c.loop-first.invariant.counted;
}
