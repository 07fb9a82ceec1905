use Rattle.std.proofs.Common.{◌≡◌, [], true, Ok, Err, sym, subst}
use Rattle.kt_ends.specs.declared.tool_stop.ToolStop.{ToolStop}
use Rattle.kt_event.specs.Loading.{loads_occurrence}
use Rattle.kt_event.specs.Plan.{terms_of}
use Rattle.kt_keys.specs.Refusals.{is_loaded}
use Rattle.kt_rec.specs.Rows.{Rows}
use Rattle.kt_rec.specs.declared.table.Table.TheVariants as table
use Rattle.kt_tables.specs.Lookups.{event_ids}
use Rattle.kt_chain.specs.Runs.{IsFolded, RoundGoes, RoundMakes, RunMakes, RunShares}
use Rattle.kt_chain.proofs.EndLemmas.{all_makes, all_says, begins_in_part, begun, first_fold, part_makes, stop_makes, stop_says}
use Rattle.kt_chain.proofs.StepLemmas.{files_of_run}
use Rattle.kt_chain.proofs.run.write_run.Goals as goal

pub returns-in-Err-clause-files : goal.returns-in-Err-clause-files
returns-in-Err-clause-files g c = λ input is.
    subst (λ (stop : ToolStop). RunMakes input (g.O.Outputs.state c.args.outputs.now) (g.O.Outputs.state c.begin.new.outputs) (Err stop)) (sym c.write_stop.ensures)
    (begins_in_part input (g.O.Outputs.state c.args.outputs.now) (g.O.Outputs.state c.begin.new.outputs) c.in-Err.fault (begun input c.args.run.now.files (files_of_run input c.args.run.now (g.I.Inputs.state c.args.inputs.now).held is c.has_files.ensures.files) (g.O.Outputs.state c.args.outputs.now) (g.O.Outputs.state c.begin.new.outputs) (Err c.in-Err.fault) c.in-Err.ensures.made))

pub new-inner-requires-clause-loaded : goal.new-inner-requires-clause-loaded
new-inner-requires-clause-loaded g c =
    subst (λ (run : RunShares). is_loaded run.portfolio.need 0 table.Occurrence ≡ true) (sym c.run.view_is)
    (loads_occurrence c.args.run.now.terms c.args.run.now.portfolio.need c.has_files.ensures.need c.has_files.ensures.terms)

pub returns-in-Err-all_rounds-clause-says : goal.returns-in-Err-all_rounds-clause-says
returns-in-Err-all_rounds-clause-says g c = λ input is.
    let folded : IsFolded input [] c.new-inner.result = first_fold input c.args.run.now (record { portfolio = c.run.inside.portfolio.now; terms = terms_of c.run.inside.plan.now; files = c.run.inside.files.now; workers = c.run.inside.workers; batch = c.run.inside.batch }) c.run.view_is (g.I.Inputs.state c.args.inputs.now).held is c.terms.result.now c.terms.ensures c.new-inner.result c.new-inner.ensures.value in
    stop_says input c.all_rounds.new.fold.inner c.in-Err-all_rounds.stop (subst (λ (rows : Rows). RoundGoes input [] (event_ids rows) c.all_rounds.new.fold.inner (Err c.in-Err-all_rounds.stop)) (sym is.rows_are) (c.in-Err-all_rounds.ensures.events input is folded))

pub returns-in-Err-all_rounds-clause-files : goal.returns-in-Err-all_rounds-clause-files
returns-in-Err-all_rounds-clause-files g c = λ input is.
    let folded : IsFolded input [] c.new-inner.result = first_fold input c.args.run.now (record { portfolio = c.run.inside.portfolio.now; terms = terms_of c.run.inside.plan.now; files = c.run.inside.files.now; workers = c.run.inside.workers; batch = c.run.inside.batch }) c.run.view_is (g.I.Inputs.state c.args.inputs.now).held is c.terms.result.now c.terms.ensures c.new-inner.result c.new-inner.ensures.value in
    stop_makes input (g.O.Outputs.state c.args.outputs.now) (g.O.Outputs.state c.begin.new.outputs) (begun input c.args.run.now.files (files_of_run input c.args.run.now (g.I.Inputs.state c.args.inputs.now).held is c.has_files.ensures.files) (g.O.Outputs.state c.args.outputs.now) (g.O.Outputs.state c.begin.new.outputs) (Ok tt) c.in_default.ensures.made) (g.O.Outputs.state c.all_rounds.new.outputs) c.in-Err-all_rounds.stop (subst (λ (rows : Rows). RoundMakes input [] (event_ids rows) (g.O.Outputs.state c.begin.new.outputs) (g.O.Outputs.state c.all_rounds.new.outputs) (Err c.in-Err-all_rounds.stop)) (sym is.rows_are) (c.in-Err-all_rounds.ensures.files input is folded))

pub returns-in-Ok-clause-says : goal.returns-in-Ok-clause-says
returns-in-Ok-clause-says g c = λ input is.
    let folded : IsFolded input [] c.new-inner.result = first_fold input c.args.run.now (record { portfolio = c.run.inside.portfolio.now; terms = terms_of c.run.inside.plan.now; files = c.run.inside.files.now; workers = c.run.inside.workers; batch = c.run.inside.batch }) c.run.view_is (g.I.Inputs.state c.args.inputs.now).held is c.terms.result.now c.terms.ensures c.new-inner.result c.new-inner.ensures.value in
    all_says input (g.O.Outputs.state c.args.outputs.now) (g.O.Outputs.state c.begin.new.outputs) (begun input c.args.run.now.files (files_of_run input c.args.run.now (g.I.Inputs.state c.args.inputs.now).held is c.has_files.ensures.files) (g.O.Outputs.state c.args.outputs.now) (g.O.Outputs.state c.begin.new.outputs) (Ok tt) c.in_default.ensures.made) c.all_rounds.new.fold.inner (subst (λ (rows : Rows). RoundGoes input [] (event_ids rows) c.all_rounds.new.fold.inner (Ok tt)) (sym is.rows_are) (c.in_default-all_rounds.ensures.events input is folded)) (g.O.Outputs.state c.all_rounds.new.outputs) (subst (λ (rows : Rows). RoundMakes input [] (event_ids rows) (g.O.Outputs.state c.begin.new.outputs) (g.O.Outputs.state c.all_rounds.new.outputs) (Ok tt)) (sym is.rows_are) (c.in_default-all_rounds.ensures.files input is folded))

pub returns-in-Ok-clause-files : goal.returns-in-Ok-clause-files
returns-in-Ok-clause-files g c = λ input is.
    let folded : IsFolded input [] c.new-inner.result = first_fold input c.args.run.now (record { portfolio = c.run.inside.portfolio.now; terms = terms_of c.run.inside.plan.now; files = c.run.inside.files.now; workers = c.run.inside.workers; batch = c.run.inside.batch }) c.run.view_is (g.I.Inputs.state c.args.inputs.now).held is c.terms.result.now c.terms.ensures c.new-inner.result c.new-inner.ensures.value in
    all_makes input (g.O.Outputs.state c.args.outputs.now) (g.O.Outputs.state c.begin.new.outputs) (begun input c.args.run.now.files (files_of_run input c.args.run.now (g.I.Inputs.state c.args.inputs.now).held is c.has_files.ensures.files) (g.O.Outputs.state c.args.outputs.now) (g.O.Outputs.state c.begin.new.outputs) (Ok tt) c.in_default.ensures.made) c.all_rounds.new.fold.inner (subst (λ (rows : Rows). RoundGoes input [] (event_ids rows) c.all_rounds.new.fold.inner (Ok tt)) (sym is.rows_are) (c.in_default-all_rounds.ensures.events input is folded)) (g.O.Outputs.state c.all_rounds.new.outputs) (subst (λ (rows : Rows). RoundMakes input [] (event_ids rows) (g.O.Outputs.state c.begin.new.outputs) (g.O.Outputs.state c.all_rounds.new.outputs) (Ok tt)) (sym is.rows_are) (c.in_default-all_rounds.ensures.files input is folded))
    c.args.run.now.files (files_of_run input c.args.run.now (g.I.Inputs.state c.args.inputs.now).held is c.has_files.ensures.files) c.keeps_periods.ensures (g.O.Outputs.state c.finish.new.outputs) c.in-Ok.ensures.made

pub returns-in-Err-finish-clause-files : goal.returns-in-Err-finish-clause-files
returns-in-Err-finish-clause-files g c = λ input is.
    let folded : IsFolded input [] c.new-inner.result = first_fold input c.args.run.now (record { portfolio = c.run.inside.portfolio.now; terms = terms_of c.run.inside.plan.now; files = c.run.inside.files.now; workers = c.run.inside.workers; batch = c.run.inside.batch }) c.run.view_is (g.I.Inputs.state c.args.inputs.now).held is c.terms.result.now c.terms.ensures c.new-inner.result c.new-inner.ensures.value in
    subst (λ (stop : ToolStop). RunMakes input (g.O.Outputs.state c.args.outputs.now) (g.O.Outputs.state c.finish.new.outputs) (Err stop)) (sym c.write_stop-in-Err-finish.ensures)
    (part_makes input (g.O.Outputs.state c.args.outputs.now) (g.O.Outputs.state c.begin.new.outputs) (begun input c.args.run.now.files (files_of_run input c.args.run.now (g.I.Inputs.state c.args.inputs.now).held is c.has_files.ensures.files) (g.O.Outputs.state c.args.outputs.now) (g.O.Outputs.state c.begin.new.outputs) (Ok tt) c.in_default.ensures.made) c.all_rounds.new.fold.inner (subst (λ (rows : Rows). RoundGoes input [] (event_ids rows) c.all_rounds.new.fold.inner (Ok tt)) (sym is.rows_are) (c.in_default-all_rounds.ensures.events input is folded)) (g.O.Outputs.state c.all_rounds.new.outputs) (subst (λ (rows : Rows). RoundMakes input [] (event_ids rows) (g.O.Outputs.state c.begin.new.outputs) (g.O.Outputs.state c.all_rounds.new.outputs) (Ok tt)) (sym is.rows_are) (c.in_default-all_rounds.ensures.files input is folded))
    c.args.run.now.files (files_of_run input c.args.run.now (g.I.Inputs.state c.args.inputs.now).held is c.has_files.ensures.files) c.keeps_periods.ensures (g.O.Outputs.state c.finish.new.outputs) c.in-Err-finish.fault c.in-Err-finish.ensures.made)
