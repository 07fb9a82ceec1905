-- The texts of one file more.
use Rattle.std.proofs.Common.{◌<◌, ℕ, List, Ok, Err, length, arith, refl, subst, ◌∙◌}
use Rattle.kt_out.specs.declared.fault.Fault.{Fault}
use Rattle.kt_out.specs.NamedFiles.{File}
use Rattle.kt_out.specs.OutputFiles.{CountsOutput}
use Rattle.kt_outputs.specs.Files.{files_with, Makes}
use Rattle.kt_outputs.specs.Texts.{text_of, lengthened_by}
use Rattle.kt_outputs.proofs.StepLemmas.{append_more, append_stops, nothing_done, all_behind}
use Rattle.kt_outputs.proofs.appending.append_texts.Goals as goal

pub loop-file-init : goal.loop-file-init
loop-file-init g c = record {
  made = λ start are text. nothing_done (files_with g.F.Named.name text c.args.files.now) (g.O.Outputs.state c.args.outputs.now) Fault;
  none_pending = c.new-out.ensures.value;
  untouched = λ start are none. refl;
  counted = refl;
}

pub returns-in-Err-clause-made : goal.returns-in-Err-clause-made
returns-in-Err-clause-made g c start are text =
    let within : c.loop-file.file-index < length c.args.files.now = omega arith in
    append_stops g.F.Named.name c.args.files.now c.requires.distinct c.loop-file.file-index c.file-item.result within c.file-item.is _ _ _ _ c.in-Err.fault text (text_of g.T.Texts.pieces_of start c.args.texts.now) (c.loop-file.invariant.made start are text) (c.in-Err.ensures.moved start are)

pub loop-file-preserved : goal.loop-file-preserved
loop-file-preserved g c =
    let within : c.loop-file.file-index < length c.args.files.now = omega arith in
    record {
      made = λ start are text. append_more g.F.Named.name c.args.files.now c.requires.distinct c.loop-file.file-index c.file-item.result within c.file-item.is _ _ _ _ text (text_of g.T.Texts.pieces_of start c.args.texts.now) (c.loop-file.invariant.made start are text) (c.in-Ok.ensures.moved start are);
      none_pending = c.in-Ok.ensures.none_pending;
      untouched = λ start are none. c.in-Ok.ensures.untouched start are (none c.file-item.result) ∙ c.loop-file.invariant.untouched start are none;
      counted = c.in-Ok.ensures.counts ∙ c.loop-file.invariant.counted;
    }

pub returns-in-Err-clause-untouched : goal.returns-in-Err-clause-untouched
returns-in-Err-clause-untouched g c start are none = c.in-Err.ensures.untouched start are (none c.file-item.result) ∙ c.loop-file.invariant.untouched start are none

pub returns-in-Err-clause-counts : goal.returns-in-Err-clause-counts
returns-in-Err-clause-counts g c =
    subst (λ (before : ℕ). CountsOutput {T = Unit {0}} before (g.O.Outputs.state c.append_text.new.outputs).faults (Err c.in-Err.fault)) c.loop-file.invariant.counted c.in-Err.ensures.counts

pub returns-in-Err-clause-counted : goal.returns-in-Err-clause-counted
returns-in-Err-clause-counted g c = omega (arith, c.loop-file.invariant.counted, c.in-Err.ensures.counted)

pub returns-clause-made : goal.returns-clause-made
returns-clause-made g c start are text =
    let name = g.F.Named.name in
    let longer = lengthened_by text (text_of g.T.Texts.pieces_of start c.args.texts.now) in
    subst (λ (files : List File). Makes {T = Unit {0}} {E = Fault} (files_with name text c.args.files.now) files (g.O.Outputs.state c.args.outputs.now) (g.O.Outputs.state c.loop-file.outputs) (Ok tt))
    (all_behind name longer text c.loop-file.file-index c.args.files.now c.loop-file-test.false) (c.loop-file.invariant.made start are text)

pub returns-clause-counts : goal.returns-clause-counts
returns-clause-counts g c = c.loop-file.invariant.counted

pub returns-clause-counted : goal.returns-clause-counted
returns-clause-counted g c = omega (arith, c.loop-file.invariant.counted)

pub returns-clause-untouched : goal.returns-clause-untouched
returns-clause-untouched g c start are none = c.loop-file.invariant.untouched start are none
