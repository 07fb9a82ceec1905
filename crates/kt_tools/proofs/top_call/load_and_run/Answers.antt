use Rattle.std.proofs.Common.{◌≡◌, Some, Ok, ap, refl, subst, sym, ◌∙◌}
use Rattle.std.specs.Prelude.{IfSome}
use Rattle.kt_keys.specs.declared.need.Need.{Need}
use Rattle.kt_load.specs.Loaded.{loaded}
use Rattle.kt_out.specs.InputFiles.{InputsState}
use Rattle.kt_front.specs.Loading.{IsOfFiles}
use Rattle.kt_tools.proofs.DueLemmas.{loaded_first, kept_first}
use Rattle.kt_tools.proofs.TableEnds.{ends_over, ends_unloaded}
use Rattle.kt_tools.proofs.top_call.load_and_run.Goals as goal

pub run_tool-requires-clause-need : goal.run_tool-requires-clause-need
run_tool-requires-clause-need g c = λ lives within. c.requires.need ∙ ap (λ (need : Need). Some need) (sym c.in-Ok.ensures.need)

pub run_tool-requires-clause-tables : goal.run_tool-requires-clause-tables
run_tool-requires-clause-tables g c = λ lives within.
    subst (λ (state : InputsState). IsOfFiles state c.in-Ok.portfolio) (sym c.in-Ok.ensures.inputs)
    (subst (λ (need : Need). IfSome (g.I.Inputs.state c.args.inputs.now).held (λ files. loaded files need ≡ Ok c.in-Ok.portfolio.rows)) (sym c.in-Ok.ensures.need) c.in-Ok.ensures.exact)

pub returns-in-Ok-clause-ends : goal.returns-in-Ok-clause-ends
returns-in-Ok-clause-ends g c words =
    ends_over words c.args.command c.args.need c.requires.need (g.I.Inputs.state c.args.inputs.now) (g.I.Inputs.state c.load.new.inputs) (g.O.Outputs.state c.args.outputs.now) (g.S.Source.state c.args.source.now) (g.K.Sink.state c.args.sink.now) c.in-Ok.portfolio c.in-Ok.ensures.need c.in-Ok.ensures.inputs c.in-Ok.ensures.exact _ _ (c.run_tool.ensures words)

pub returns-in-Err-clause-ends : goal.returns-in-Err-clause-ends
returns-in-Err-clause-ends g c words =
    rw c.load_stop.ensures
    (ends_unloaded words c.args.command c.args.need c.requires.need (g.I.Inputs.state c.args.inputs.now) (g.I.Inputs.state c.load.new.inputs) (g.O.Outputs.state c.args.outputs.now) (g.S.Source.state c.args.source.now) (g.K.Sink.state c.args.sink.now) c.in-Err.stop c.in-Err.ensures.exact c.in-Err.ensures.inputs)

pub returns-in-Ok-clause-due : goal.returns-in-Ok-clause-due
returns-in-Ok-clause-due g c = loaded_first c.args.command c.args.need c.requires.need _ _ c.in-Ok.portfolio.rows c.in-Ok.ensures.exact

pub returns-in-Err-clause-due : goal.returns-in-Err-clause-due
returns-in-Err-clause-due g c = kept_first c.args.command _ _ (record { outputs = refl; source = refl; sink = refl })
