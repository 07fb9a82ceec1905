use Rattle.std.proofs.Common.{◌∙◌, ap}
use Rattle.std.proofs.lemmas.Result.{err_from_is_err_and}
use Rattle.kt_ends.specs.declared.status.Status.TheVariants as status
use Rattle.kt_ends.specs.Stops.{stop_status}
use Rattle.kt_block.specs.declared.terms.Terms.{Terms}
use Rattle.kt_files.specs.OutputFiles.{output_files}
use Rattle.kt_tools.specs.GeneratedRun.{generated_run, generated_terms}
use Rattle.kt_tools.proofs.GeneratedLemmas.{ends_by_terms, made_in_memory, memory_in_memory, no_sink, no_source, stops_in_memory}
use Rattle.kt_tools.proofs.generated.run_loaded.Goals as goal

pub returns-in_err-files : goal.returns-in_err-files
returns-in_err-files g c seed items events loads held =
    let stop = err_from_is_err_and c.from_residual.result c.from_residual.ensures.1 in
    memory_in_memory _ (generated_run seed items events) c.from_residual.result stop.0 stop.1 stop.2

pub returns-in-Ok : goal.returns-in-Ok
returns-in-Ok g c seed items events loads held =
    let rows = c.args.portfolio.now.rows in
    made_in_memory seed items events rows loads c.args.inputs.now c.run_chain.new.inputs c.run_chain.new.outputs held
    c.made_files_are_shown.ensures (c.names_are_distinct.ensures.distinct rows generated_terms.last) c.in_ok-files.files.items
    (c.in_ok-files.ensures.value ∙ ap (λ (terms : Terms). output_files rows terms.last) c.generated_terms-terms.ensures)
    (ends_by_terms c.generated_terms-terms.result rows c.args.inputs.now c.run_chain.new.inputs c.args.outputs.now c.run_chain.new.outputs status.Done c.generated_terms-terms.ensures c.requires.none (c.in-Ok.ensures.ends no_source no_sink))

pub returns-in-Err : goal.returns-in-Err
returns-in-Err g c seed items events loads held =
    let rows = c.args.portfolio.now.rows in
    stops_in_memory seed items events rows loads c.args.inputs.now c.run_chain.new.inputs c.run_chain.new.outputs held
    c.in-Err.stop c.in-Err.ensures.stop
    (ends_by_terms c.generated_terms-terms.result rows c.args.inputs.now c.run_chain.new.inputs c.args.outputs.now c.run_chain.new.outputs (stop_status c.in-Err.stop) c.generated_terms-terms.ensures c.requires.none (c.in-Err.ensures.ends no_source no_sink))
