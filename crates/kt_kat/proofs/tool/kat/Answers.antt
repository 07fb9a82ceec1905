use Rattle.std.proofs.Common.{◌≡◌, ◌∙◌, ◌<◌, Ok, Err, List, ℕ, length, drop, subst, refl, sym, ap, arith}
use Rattle.std.specs.Prelude.{IfSome}
use Rattle.std.proofs.lemmas.List.{length-drop}
use Rattle.std.specs.Global.{Vec}
use Rattle.kt_out.specs.InputFiles.{InputsState}
use Rattle.kt_ends.specs.Stops.{end_status}
use Rattle.kt_loop.specs.InputFile.{IsSized, file_bytes}
use Rattle.kt_loop.specs.Settling.{IsEnd}
use Rattle.kt_kat.specs.FileKinds.{kind_at_front}
use Rattle.kt_kat.specs.Files.{files_of}
use Rattle.kt_kat.specs.Found.{LooksInto}
use Rattle.kt_kat.specs.declared.front.FileKind.{FileKind}
use Rattle.kt_kat.specs.Outcome.{together}
use Rattle.kt_kat.proofs.Finding.{found_due, sink_kept, word_at}
use Rattle.kt_kat.proofs.OneByOne.{sized_first, first_size}
use Rattle.kt_kat.proofs.Ending.{ended_found, ends_together, ends_unfound, ends_unseen, counted_from}
use Rattle.kt_kat.proofs.tool.kat.Goals as goal

pub kind_of_file-requires : goal.kind_of_file-requires
kind_of_file-requires g c =
    let some : 0 < length c.in-Ok.sizes.items = omega (arith, c.in-Ok.ensures.each, c.requires, length-drop 1 c.args.words.now) in
    record {
      sized = subst (λ (state : InputsState). IsSized state.held c.word.result.now c.index.result.now) (sym c.in-Ok.ensures.counted)
          (sized_first (g.I.Inputs.state c.args.inputs.now).held c.word.result.now (drop 1 c.args.words.now) (drop 2 c.args.words.now) c.index.result.now c.in-Ok.sizes.items (drop 1 c.in-Ok.sizes.items) (word_at c.args.words.now 1 c.word.result.now c.word.ensures.value) (first_size c.in-Ok.sizes.items c.index.result.now some c.index.ensures) c.in-Ok.ensures.found);
    }

pub returns-in-Err-clause-ends : goal.returns-in-Err-clause-ends
returns-in-Err-clause-ends g c outputs source = ends_unfound (drop 1 c.args.words.now) _ _ outputs source _ (Vec ℕ) c.in-Err.stop c.in-Err.ensures.refused c.in-Err.ensures.counted

pub returns-in-Err-kind_of_file-clause-ends : goal.returns-in-Err-kind_of_file-clause-ends
returns-in-Err-kind_of_file-clause-ends g c outputs source =
    let looked = subst (λ (state : InputsState). LooksInto {T = FileKind} state (g.I.Inputs.state c.kind_of_file.new.inputs) (Err c.in-Err-kind_of_file.fault)) c.in-Ok.ensures.counted c.in-Err-kind_of_file.ensures.counts in
    rw c.unread_stop.ensures (ends_unseen (drop 1 c.args.words.now) _ _ outputs source _ FileKind c.in-Err-kind_of_file.fault looked)

pub returns-clause-ends : goal.returns-clause-ends
returns-clause-ends g c outputs source =
    let same = c.in-Ok-kind_of_file.ensures.counts ∙ c.in-Ok.ensures.counted in
    let kind = subst (λ (state : InputsState). IfSome (file_bytes state.held c.word.result.now) (λ bytes. c.in-Ok-kind_of_file.kind ≡ kind_at_front bytes)) c.in-Ok.ensures.counted c.in-Ok-kind_of_file.ensures.value in
    let ended = subst (λ (state : InputsState). IfSome state.held (λ files. (contents : List (List ℕ)) → files_of (drop 1 c.args.words.now) files ≡ Ok contents → IsEnd (together c.in-Ok-kind_of_file.kind contents) (g.K.Sink.state c.args.sink.now).taken (g.K.Sink.state c.write_together.new.sink).taken (end_status c.write_together.result))) same c.write_together.ensures.ended in
    ends_together (drop 1 c.args.words.now) _ _ outputs source _ _ (end_status c.write_together.result)
    (ended_found (g.I.Inputs.state c.args.inputs.now).held (drop 1 c.args.words.now) c.word.result.now (drop 2 c.args.words.now) c.in-Ok.sizes.items c.in-Ok-kind_of_file.kind _ _ (end_status c.write_together.result) (word_at c.args.words.now 1 c.word.result.now c.word.ensures.value) c.in-Ok.ensures.found kind ended)
    (counted_from _ _ _ outputs source (g.K.Sink.state c.args.sink.now) (g.K.Sink.state c.args.sink.now) (g.K.Sink.state c.write_together.new.sink) (end_status c.write_together.result) same refl (c.write_together.ensures.counted outputs source))
    (c.write_together.ensures.files ∙ ap (λ (state : InputsState). state.held) same)

pub returns-in-Err-clause-due : goal.returns-in-Err-clause-due
returns-in-Err-clause-due g c = sink_kept (drop 1 c.args.words.now) (g.I.Inputs.state c.args.inputs.now) (g.K.Sink.state c.args.sink.now)

pub returns-in-Err-kind_of_file-clause-due : goal.returns-in-Err-kind_of_file-clause-due
returns-in-Err-kind_of_file-clause-due g c = sink_kept (drop 1 c.args.words.now) (g.I.Inputs.state c.args.inputs.now) (g.K.Sink.state c.args.sink.now)

pub returns-clause-due : goal.returns-clause-due
returns-clause-due g c = found_due (drop 1 c.args.words.now) (g.I.Inputs.state c.args.inputs.now) c.in-Ok.sizes.items _ _ c.in-Ok.ensures.found
