use Rattle.std.proofs.Common.{◌≡◌, ◌++◌, ◌∙◌, ℕ, List, All, drop, refl, ap, sym, subst}
use Rattle.std.proofs.lemmas.List.{take-append-drop}
use Rattle.std.proofs.lemmas.List.Elements.{All-drop}
use Rattle.kt_out.specs.InputFiles.{InputsState}
use Rattle.kt_stream.specs.Pairs.{IsId}
use Rattle.kt_tables.specs.Lookups.{event_ids}
use Rattle.kt_chain.specs.Runs.{IsRunOf, RunShares}
use Rattle.kt_chain.proofs.StepLemmas.{Going, all_gone, events_are_ids, going_first, going_on, none_left, round_ends, round_ends_files}
use Rattle.kt_chain.proofs.rounds.all_rounds.Goals as goal

pub loop-rest-init : goal.loop-rest-init
loop-rest-init g c =
    let events : event_ids c.args.run.now.portfolio.rows ≡ c.events-rest.result.now = ap (λ (run : RunShares). event_ids run.portfolio.rows) (sym c.run.view_is) ∙ sym c.events-rest.ensures.value in
    record {
      ids = subst (All IsId) (sym c.events-rest.ensures.value) (events_are_ids c.run.inside.portfolio.now.rows c.is_valid.ensures.valid.in_range);
      inputs = refl;
      faults = refl;
      fits = c.requires.fits;
      going = λ input is folded. subst (λ (rest : List ℕ). Going input (event_ids c.args.run.now.portfolio.rows) rest c.args.fold.now.inner (g.O.Outputs.state c.args.outputs.now) (g.O.Outputs.state c.args.outputs.now)) events
          (going_first input (event_ids c.args.run.now.portfolio.rows) c.args.fold.now.inner (g.O.Outputs.state c.args.outputs.now) folded);
    }

pub returns-in-Err-clause-events : goal.returns-in-Err-clause-events
returns-in-Err-clause-events g c = λ input is folded.
    let events = event_ids c.args.run.now.portfolio.rows in
    let round = c.split_at.result.0.now in
    let later = c.split_at.result.1.now in
    let split : c.loop-rest.rest.now ≡ round ++ later =
    sym (take-append-drop c.min.result c.loop-rest.rest.now) ∙ ap (λ (front : List ℕ). front ++ drop c.min.result c.loop-rest.rest.now) (sym c.split_at.ensures.front) ∙ ap (λ (back : List ℕ). round ++ back) (sym c.split_at.ensures.back) in
    let here : Going input events (round ++ later) c.loop-rest.fold.inner (g.O.Outputs.state c.args.outputs.now) (g.O.Outputs.state c.loop-rest.outputs) =
    subst (λ (rest : List ℕ). Going input events rest c.loop-rest.fold.inner (g.O.Outputs.state c.args.outputs.now) (g.O.Outputs.state c.loop-rest.outputs)) split (c.loop-rest.invariant.going input is folded) in
    let still = subst (λ (inputs : InputsState). IsRunOf inputs.held c.args.run.now.terms c.args.run.now.portfolio.rows input) (sym c.loop-rest.invariant.inputs) is in
    round_ends input events round later c.loop-rest.fold.inner (g.O.Outputs.state c.args.outputs.now) (g.O.Outputs.state c.loop-rest.outputs) here c.one_round.new.fold.inner c.in-Err.stop (c.in-Err.ensures.events input here.done still here.folded)

pub returns-in-Err-clause-files : goal.returns-in-Err-clause-files
returns-in-Err-clause-files g c = λ input is folded.
    let events = event_ids c.args.run.now.portfolio.rows in
    let round = c.split_at.result.0.now in
    let later = c.split_at.result.1.now in
    let split : c.loop-rest.rest.now ≡ round ++ later =
    sym (take-append-drop c.min.result c.loop-rest.rest.now) ∙ ap (λ (front : List ℕ). front ++ drop c.min.result c.loop-rest.rest.now) (sym c.split_at.ensures.front) ∙ ap (λ (back : List ℕ). round ++ back) (sym c.split_at.ensures.back) in
    let here : Going input events (round ++ later) c.loop-rest.fold.inner (g.O.Outputs.state c.args.outputs.now) (g.O.Outputs.state c.loop-rest.outputs) =
    subst (λ (rest : List ℕ). Going input events rest c.loop-rest.fold.inner (g.O.Outputs.state c.args.outputs.now) (g.O.Outputs.state c.loop-rest.outputs)) split (c.loop-rest.invariant.going input is folded) in
    let still = subst (λ (inputs : InputsState). IsRunOf inputs.held c.args.run.now.terms c.args.run.now.portfolio.rows input) (sym c.loop-rest.invariant.inputs) is in
    round_ends_files input events round later c.loop-rest.fold.inner (g.O.Outputs.state c.args.outputs.now) (g.O.Outputs.state c.loop-rest.outputs) here (g.O.Outputs.state c.one_round.new.outputs) c.in-Err.stop (c.in-Err.ensures.files input here.done still here.folded)

pub loop-rest-preserved : goal.loop-rest-preserved
loop-rest-preserved g c = record {
  ids = subst (All IsId) (sym c.split_at.ensures.back) (All-drop IsId c.min.result c.loop-rest.rest.now c.loop-rest.invariant.ids);
  inputs = c.in_default.ensures.counts.0 ∙ c.loop-rest.invariant.inputs;
  faults = c.in_default.ensures.counts.1 ∙ c.loop-rest.invariant.faults;
  fits = c.in_default.ensures.fits;
  going = λ input is folded.
      let events = event_ids c.args.run.now.portfolio.rows in
      let round = c.split_at.result.0.now in
      let later = c.split_at.result.1.now in
      let split : c.loop-rest.rest.now ≡ round ++ later =
      sym (take-append-drop c.min.result c.loop-rest.rest.now) ∙ ap (λ (front : List ℕ). front ++ drop c.min.result c.loop-rest.rest.now) (sym c.split_at.ensures.front) ∙ ap (λ (back : List ℕ). round ++ back) (sym c.split_at.ensures.back) in
      let here : Going input events (round ++ later) c.loop-rest.fold.inner (g.O.Outputs.state c.args.outputs.now) (g.O.Outputs.state c.loop-rest.outputs) =
      subst (λ (rest : List ℕ). Going input events rest c.loop-rest.fold.inner (g.O.Outputs.state c.args.outputs.now) (g.O.Outputs.state c.loop-rest.outputs)) split (c.loop-rest.invariant.going input is folded) in
      let still = subst (λ (inputs : InputsState). IsRunOf inputs.held c.args.run.now.terms c.args.run.now.portfolio.rows input) (sym c.loop-rest.invariant.inputs) is in
      going_on input events round later c.loop-rest.fold.inner (g.O.Outputs.state c.args.outputs.now) (g.O.Outputs.state c.loop-rest.outputs) here c.one_round.new.fold.inner (g.O.Outputs.state c.one_round.new.outputs)
      (c.in_default.ensures.events input here.done still here.folded) (c.in_default.ensures.files input here.done still here.folded);
}

pub returns-clause-events : goal.returns-clause-events
returns-clause-events g c = λ input is folded.
    (all_gone input (event_ids c.args.run.now.portfolio.rows) c.loop-rest.fold.inner (g.O.Outputs.state c.args.outputs.now) (g.O.Outputs.state c.loop-rest.outputs) c.loop-rest.rest.now (none_left c.loop-rest.rest.now (sym c.is_empty.ensures ∙ c.loop-rest-test.false)) (c.loop-rest.invariant.going input is folded)).0

pub returns-clause-files : goal.returns-clause-files
returns-clause-files g c = λ input is folded.
    (all_gone input (event_ids c.args.run.now.portfolio.rows) c.loop-rest.fold.inner (g.O.Outputs.state c.args.outputs.now) (g.O.Outputs.state c.loop-rest.outputs) c.loop-rest.rest.now (none_left c.loop-rest.rest.now (sym c.is_empty.ensures ∙ c.loop-rest-test.false)) (c.loop-rest.invariant.going input is folded)).1
