use Rattle.std.proofs.Common.{subst}
use Rattle.std.proofs.lemmas.Result.{err_from_is_err_and}
use Rattle.kt_block.specs.declared.terms.Terms.{Terms}
use Rattle.kt_chain.specs.Events.{RunInput}
use Rattle.kt_chain.specs.Runs.{IsRunOf, RunMakes, RunSays}
use Rattle.kt_chain.proofs.WorldLemmas.{chain_ends, memory_ends}
use Rattle.kt_chain.proofs.run.run_chain.Goals as goal

pub returns-in_err-files-clause-ends : goal.returns-in_err-files-clause-ends
returns-in_err-files-clause-ends g c = λ source sink.
    let stop = err_from_is_err_and c.from_residual-in_err-files.result c.from_residual-in_err-files.ensures.1 in
    memory_ends c.args.options.now.terms c.args.portfolio.now.rows (g.I.Inputs.state c.args.inputs.now) (g.O.Outputs.state c.args.outputs.now) source sink c.from_residual-in_err-files.result stop.0 stop.1 stop.2

pub returns-clause-ends : goal.returns-clause-ends
returns-clause-ends g c = λ source sink.
    chain_ends c.args.options.now.terms c.args.portfolio.now.rows (g.I.Inputs.state c.args.inputs.now) (g.I.Inputs.state c.write_run.new.inputs) (g.O.Outputs.state c.args.outputs.now) (g.O.Outputs.state c.write_run.new.outputs) source sink
    c.write_run.result c.requires.file
    (subst (λ (terms : Terms). (run : RunInput) → IsRunOf (g.I.Inputs.state c.args.inputs.now).held terms c.args.portfolio.now.rows run → RunSays run c.write_run.result) c.in_ok-plan.ensures.terms c.write_run.ensures.says)
    (subst (λ (terms : Terms). (run : RunInput) → IsRunOf (g.I.Inputs.state c.args.inputs.now).held terms c.args.portfolio.now.rows run → RunMakes run (g.O.Outputs.state c.args.outputs.now) (g.O.Outputs.state c.write_run.new.outputs) c.write_run.result) c.in_ok-plan.ensures.terms c.write_run.ensures.files)
    c.write_run.ensures.counts c.write_run.ensures.stop
