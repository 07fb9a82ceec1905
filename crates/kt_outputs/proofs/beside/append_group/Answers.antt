use Rattle.std.proofs.Common.{◌≡◌, ◌<◌, ◌+◌, length, arith, subst, ◌∙◌}
use Rattle.kt_outputs.specs.Beside.{MadeUpTo}
use Rattle.kt_outputs.specs.Texts.{text_of}
use Rattle.kt_outputs.proofs.HandLemmas.{taken_for}
use Rattle.kt_outputs.proofs.StepLemmas.{append_more, append_stops}
use Rattle.kt_outputs.proofs.beside.append_group.Goals as goal

pub returns-in-Err-clause-made : goal.returns-in-Err-clause-made
returns-in-Err-clause-made g c start begun text are held made =
    let more = text_of g.T.Texts.pieces_of start c.args.texts.now in
    let at = c.loop-at.at in
    let within : c.args.first + at < length c.args.files.now = omega (arith, c.requires.within, c.loop-at-test.true) in
    append_stops g.F.Named.name c.args.files.now c.requires.distinct (c.args.first + at) c.index-files-first.result within c.index-files-first.is _ _ _ _ c.in-Err.fault text more
    (c.loop-at.invariant.made start begun text are held made)
    (c.in-Err.ensures.moved start are
    (taken_for more c.args.files.now c.args.first c.args.count at c.index-files-first.result _ c.requires.within c.loop-at-test.true c.index-files-first.is
    (c.take_text-text.ensures _ (c.loop-at.invariant.held _ held)).1))

pub returns-clause-made : goal.returns-clause-made
returns-clause-made g c start begun text are held made =
    let last : c.loop-at.at ≡ c.args.count = omega (arith, c.loop-at-test.false, c.loop-at.auto.at-end) in
    subst (λ at. MadeUpTo g.F.Named.name text (text_of g.T.Texts.pieces_of start c.args.texts.now) c.args.files.now (c.args.first + at) begun (g.O.Outputs.state c.loop-at.outputs)) last
    (c.loop-at.invariant.made start begun text are held made)

pub loop-at-preserved : goal.loop-at-preserved
loop-at-preserved g c =
    let at = c.loop-at.at in
    let within : c.args.first + at < length c.args.files.now = omega (arith, c.requires.within, c.loop-at-test.true) in
    record {
      held = λ wanted held. (c.take_text-text.ensures wanted (c.loop-at.invariant.held wanted held)).0;
      made = λ start begun text are held made.
          let more = text_of g.T.Texts.pieces_of start c.args.texts.now in
          subst (λ place. MadeUpTo g.F.Named.name text more c.args.files.now place begun (g.O.Outputs.state c.append_either.new.outputs)) (omega (arith))
          (append_more g.F.Named.name c.args.files.now c.requires.distinct (c.args.first + at) c.index-files-first.result within c.index-files-first.is _ _ _ _ text more
          (c.loop-at.invariant.made start begun text are held made)
          (c.in-Ok.ensures.moved start are
          (taken_for more c.args.files.now c.args.first c.args.count at c.index-files-first.result _ c.requires.within c.loop-at-test.true c.index-files-first.is
          (c.take_text-text.ensures _ (c.loop-at.invariant.held _ held)).1)));
      counted = c.in-Ok.ensures.counts ∙ c.loop-at.invariant.counted;
    }
