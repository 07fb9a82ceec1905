use Rattle.std.proofs.Common.{◌≡◌, ◌++◌, All, Ok, Err, ap, sym, subst, true}
use Rattle.kt_event.specs.Loading.{loads_footprint, loads_footprint_index}
use Rattle.kt_keys.specs.Refusals.{is_loaded}
use Rattle.kt_rec.specs.declared.table.Table.TheVariants as table
use Rattle.kt_stream.specs.Pairs.{IsId}
use Rattle.kt_ends.specs.declared.tool_stop.ToolStop.{ToolStop}
use Rattle.kt_chain.specs.Files.{files_upto}
use Rattle.kt_chain.specs.Runs.{RoundMakes, RunShares}
use Rattle.kt_chain.proofs.StepLemmas.{ended, files_of_run, folds_to, ids_are, none_goes, none_makes, nothing_written, reading_stops, refused_goes, upto_made, writing_stops}
use Rattle.kt_chain.proofs.rounds.one_round.Goals as goal

pub fill_rows-requires-clause-footprint : goal.fill_rows-requires-clause-footprint
fill_rows-requires-clause-footprint g c =
    subst (λ (run : RunShares). is_loaded run.portfolio.need 0 table.Footprint ≡ true) (sym c.run.view_is)
    (loads_footprint c.args.run.now.terms c.args.run.now.portfolio.need c.has_files.ensures.need c.has_files.ensures.terms)

pub fill_rows-requires-clause-index : goal.fill_rows-requires-clause-index
fill_rows-requires-clause-index g c =
    subst (λ (run : RunShares). is_loaded run.portfolio.need 0 table.FootprintIdx ≡ true) (sym c.run.view_is)
    (loads_footprint_index c.args.run.now.terms c.args.run.now.portfolio.need c.has_files.ensures.need c.has_files.ensures.terms)

pub returns-in-Err-clause-files : goal.returns-in-Err-clause-files
returns-in-Err-clause-files g c = λ input done is folded.
    reading_stops input done c.args.events.now (g.I.Inputs.state c.args.inputs.now) (g.I.Inputs.state c.fill_rows.new.inputs) (g.O.Outputs.state c.args.outputs.now) c.in-Err.stop c.in-Err.ensures.inputs

pub fold_round-requires-clause-events : goal.fold_round-requires-clause-events
fold_round-requires-clause-events g c =
    λ lifetimes outlive. ids_are c.fill_rows.new.given (subst (All IsId) (sym c.in_default.ensures.events) c.requires.events)

pub returns-in-Err-fold_round-clause-files : goal.returns-in-Err-fold_round-clause-files
returns-in-Err-fold_round-clause-files g c = λ input done is folded.
    nothing_written input done c.args.events.now (g.O.Outputs.state c.args.outputs.now) _

pub returns-in-Err-write_kept-clause-files : goal.returns-in-Err-write_kept-clause-files
returns-in-Err-write_kept-clause-files g c = λ input done is folded.
    let to = folds_to input c.args.run.now done c.args.events.now c.fill_rows.new.given c.in_default.ensures.events c.run.inside.portfolio.now.rows (ap (λ (run : RunShares). run.portfolio.rows) c.run.view_is) (g.I.Inputs.state c.args.inputs.now).held is c.in_default.ensures.rows c.args.fold.now.inner folded c.in-Ok.refusal c.fold_round.new.fold c.in-Ok.ensures.folds in
    subst (λ (stop : ToolStop). RoundMakes input done c.args.events.now (g.O.Outputs.state c.args.outputs.now) (g.O.Outputs.state c.write_kept.new.outputs) (Err stop)) (sym c.write_stop.ensures)
    (writing_stops input done c.args.events.now c.in-Ok.refusal c.fold_round.new.fold.inner to.0 (g.O.Outputs.state c.args.outputs.now) (g.O.Outputs.state c.write_kept.new.outputs) c.in-Err-write_kept.fault
    (upto_made input c.args.run.now.files (files_of_run input c.args.run.now (g.I.Inputs.state c.args.inputs.now).held is c.has_files.ensures.files) done to.0.front c.fold_round.new.fold.inner.cells.samples c.fold_round.new.fold.inner.rows _ to.0.samples to.0.rows to.0.kept
    (g.O.Outputs.state c.args.outputs.now) (g.O.Outputs.state c.write_kept.new.outputs) (Err c.in-Err-write_kept.fault) (c.in-Err-write_kept.ensures.made to.1)))

pub returns-in-Some-clause-events : goal.returns-in-Some-clause-events
returns-in-Some-clause-events g c = λ input done is folded.
    let to = folds_to input c.args.run.now done c.args.events.now c.fill_rows.new.given c.in_default.ensures.events c.run.inside.portfolio.now.rows (ap (λ (run : RunShares). run.portfolio.rows) c.run.view_is) (g.I.Inputs.state c.args.inputs.now).held is c.in_default.ensures.rows c.args.fold.now.inner folded c.in-Ok.refusal c.fold_round.new.fold c.in-Ok.ensures.folds in
    record { reached = done ++ to.0.front; stops = refused_goes input done c.args.events.now c.in-Some.why c.in-Ok.refusal c.in-Some.is c.fold_round.new.fold.inner to.0 }

pub returns-in-Some-clause-files : goal.returns-in-Some-clause-files
returns-in-Some-clause-files g c = λ input done is folded.
    let to = folds_to input c.args.run.now done c.args.events.now c.fill_rows.new.given c.in_default.ensures.events c.run.inside.portfolio.now.rows (ap (λ (run : RunShares). run.portfolio.rows) c.run.view_is) (g.I.Inputs.state c.args.inputs.now).held is c.in_default.ensures.rows c.args.fold.now.inner folded c.in-Ok.refusal c.fold_round.new.fold c.in-Ok.ensures.folds in
    record {
      reached = done ++ to.0.front;
      stops = refused_goes input done c.args.events.now c.in-Some.why c.in-Ok.refusal c.in-Some.is c.fold_round.new.fold.inner to.0;
      makes = ended (files_upto input done) (files_upto input (done ++ to.0.front)) (g.O.Outputs.state c.args.outputs.now) (g.O.Outputs.state c.write_kept.new.outputs)
          (upto_made input c.args.run.now.files (files_of_run input c.args.run.now (g.I.Inputs.state c.args.inputs.now).held is c.has_files.ensures.files) done to.0.front c.fold_round.new.fold.inner.cells.samples c.fold_round.new.fold.inner.rows _ to.0.samples to.0.rows to.0.kept
          (g.O.Outputs.state c.args.outputs.now) (g.O.Outputs.state c.write_kept.new.outputs) (Ok tt) (c.in_default-write_kept.ensures.made to.1));
    }

pub returns-in-None-clause-events : goal.returns-in-None-clause-events
returns-in-None-clause-events g c = λ input done is folded.
    let to = folds_to input c.args.run.now done c.args.events.now c.fill_rows.new.given c.in_default.ensures.events c.run.inside.portfolio.now.rows (ap (λ (run : RunShares). run.portfolio.rows) c.run.view_is) (g.I.Inputs.state c.args.inputs.now).held is c.in_default.ensures.rows c.args.fold.now.inner folded c.in-Ok.refusal c.fold_round.new.fold c.in-Ok.ensures.folds in
    none_goes input done c.args.events.now c.in-Ok.refusal c.in-None.is c.fold_round.new.fold.inner c.write_kept.new.fold.inner to.0 c.in_default-write_kept.ensures.fold

pub returns-in-None-clause-files : goal.returns-in-None-clause-files
returns-in-None-clause-files g c = λ input done is folded.
    let to = folds_to input c.args.run.now done c.args.events.now c.fill_rows.new.given c.in_default.ensures.events c.run.inside.portfolio.now.rows (ap (λ (run : RunShares). run.portfolio.rows) c.run.view_is) (g.I.Inputs.state c.args.inputs.now).held is c.in_default.ensures.rows c.args.fold.now.inner folded c.in-Ok.refusal c.fold_round.new.fold c.in-Ok.ensures.folds in
    none_makes input done c.args.events.now c.in-Ok.refusal c.in-None.is c.fold_round.new.fold.inner to.0 (g.O.Outputs.state c.args.outputs.now) (g.O.Outputs.state c.write_kept.new.outputs)
    (upto_made input c.args.run.now.files (files_of_run input c.args.run.now (g.I.Inputs.state c.args.inputs.now).held is c.has_files.ensures.files) done to.0.front c.fold_round.new.fold.inner.cells.samples c.fold_round.new.fold.inner.rows _ to.0.samples to.0.rows to.0.kept
    (g.O.Outputs.state c.args.outputs.now) (g.O.Outputs.state c.write_kept.new.outputs) (Ok tt) (c.in_default-write_kept.ensures.made to.1))
