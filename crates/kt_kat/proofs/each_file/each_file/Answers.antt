use Rattle.std.proofs.Common.{◌+◌, drop, get_or, subst, sym, arith}
use Rattle.std.specs.Prelude.{IfSome}
use Rattle.kt_out.specs.InputFiles.{InputsState}
use Rattle.kt_ends.specs.Stops.{stop_status}
use Rattle.kt_ends.specs.declared.status.Status.TheVariants.{Done}
use Rattle.kt_loop.specs.InputFile.{IsSized, file_bytes}
use Rattle.kt_loop.specs.Settling.{IsEnd}
use Rattle.std.proofs.lemmas.List.{drop_all}
use Rattle.kt_kat.proofs.Ending.{counted_from, inputs_kept, faults_kept}
use Rattle.kt_kat.proofs.Finding.{word_at}
use Rattle.kt_kat.proofs.OneByOne.{sized_first, found_later, size_at, joined_more, joined_until, joined_all}
use Rattle.kt_kat.proofs.each_file.each_file.Goals as goal

pub step-requires : goal.step-requires
step-requires g c = record {
  sized = subst (λ (state : InputsState). IsSized state.held c.word-name.result.now (get_or c.args.sizes.now c.files.n 0)) (sym c.files.invariant.inputs)
      (sized_first (g.I.Inputs.state c.args.inputs.now).held c.word-name.result.now (drop (c.files.n + 1) c.args.words.now) (drop (c.files.n + 1 + 1) c.args.words.now) (get_or c.args.sizes.now c.files.n 0) (drop c.files.n c.args.sizes.now) (drop (c.files.n + 1) c.args.sizes.now) (word_at c.args.words.now (c.files.n + 1) c.word-name.result.now c.word-name.ensures.value) (size_at c.args.sizes.now c.files.n (omega (arith, c.files-test.true))) c.files.invariant.found);
}

pub returns-in-Err-clause-ended : goal.returns-in-Err-clause-ended
returns-in-Err-clause-ended g c start at =
    joined_until g.F.FileStep.made g.F.FileStep.next (λ state. g.F.FileStep.is_at state c.files.step) (λ state. g.F.FileStep.is_at state c.step.new.self) start (drop 1 c.args.words.now) (drop (c.files.n + 1) c.args.words.now) c.word-name.result.now (drop (c.files.n + 1 + 1) c.args.words.now) (c.files.n + 1) _ _ _ (word_at c.args.words.now (c.files.n + 1) c.word-name.result.now c.word-name.ensures.value) (g.I.Inputs.state c.args.inputs.now).held c.in-Err.stop (c.files.invariant.joined start at)
    (λ state stood. subst (λ (known : InputsState). IfSome (file_bytes known.held c.word-name.result.now) (λ bytes. IsEnd (g.F.FileStep.made state (c.files.n + 1) bytes) (g.K.Sink.state c.files.sink).taken (g.K.Sink.state c.step.new.sink).taken (stop_status c.in-Err.stop))) c.files.invariant.inputs (c.in-Err.ensures.ended state stood))

pub returns-in-Err-clause-counted : goal.returns-in-Err-clause-counted
returns-in-Err-clause-counted g c outputs source = counted_from _ _ _ outputs source _ _ _ (stop_status c.in-Err.stop) c.files.invariant.inputs c.files.invariant.faults (c.in-Err.ensures.counted outputs source)

pub files-preserved : goal.files-preserved
files-preserved g c =
    let named = word_at c.args.words.now (c.files.n + 1) c.word-name.result.now c.word-name.ensures.value in
    record {
      inputs = inputs_kept _ _ _ (g.K.Sink.state c.files.sink) (g.K.Sink.state c.step.new.sink) c.files.invariant.inputs c.in_default.ensures.files c.in_default.ensures.counted;
      faults = faults_kept (g.I.Inputs.state c.files.inputs) (g.I.Inputs.state c.step.new.inputs) (g.K.Sink.state c.args.sink.now) (g.K.Sink.state c.files.sink) (g.K.Sink.state c.step.new.sink) c.files.invariant.faults c.in_default.ensures.counted;
      found = found_later (g.I.Inputs.state c.args.inputs.now).held c.word-name.result.now (drop (c.files.n + 1) c.args.words.now) (drop (c.files.n + 1 + 1) c.args.words.now) (get_or c.args.sizes.now c.files.n 0) (drop c.files.n c.args.sizes.now) (drop (c.files.n + 1) c.args.sizes.now) named (size_at c.args.sizes.now c.files.n (omega (arith, c.files-test.true))) c.files.invariant.found;
      joined = λ start at.
          joined_more g.F.FileStep.made g.F.FileStep.next (λ state. g.F.FileStep.is_at state c.files.step) (λ state. g.F.FileStep.is_at state c.step.new.self) start (drop 1 c.args.words.now) (drop (c.files.n + 1) c.args.words.now) c.word-name.result.now (drop (c.files.n + 1 + 1) c.args.words.now) (c.files.n + 1) _ _ _ named (g.I.Inputs.state c.args.inputs.now).held (c.files.invariant.joined start at)
          (λ state stood. subst (λ (known : InputsState). IfSome (file_bytes known.held c.word-name.result.now) (λ bytes. IsEnd (g.F.FileStep.made state (c.files.n + 1) bytes) (g.K.Sink.state c.files.sink).taken (g.K.Sink.state c.step.new.sink).taken Done)) c.files.invariant.inputs (c.in_default.ensures.ended state stood))
          (λ state stood. subst (λ (known : InputsState). IfSome (file_bytes known.held c.word-name.result.now) (λ bytes. g.F.FileStep.is_at (g.F.FileStep.next state bytes) c.step.new.self)) c.files.invariant.inputs (c.in_default.ensures.stands state stood));
    }

pub returns-clause-ended : goal.returns-clause-ended
returns-clause-ended g c start at =
    joined_all g.F.FileStep.made g.F.FileStep.next (λ state. g.F.FileStep.is_at state c.files.step) (g.I.Inputs.state c.args.inputs.now).held start (drop 1 c.args.words.now) (drop (c.files.n + 1) c.args.words.now) (c.files.n + 1) _ _ (drop_all (c.files.n + 1) c.args.words.now (omega (arith, c.files-test.false, c.requires.each))) (c.files.invariant.joined start at)
