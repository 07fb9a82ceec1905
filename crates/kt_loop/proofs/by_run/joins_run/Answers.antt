use Rattle.std.proofs.Common.{◌<◌, length, sym, ap, ◌∙◌, rules}
use Rattle.kt_loop.specs.declared.run_key.RunKey.{RunKey}
use Rattle.kt_loop.specs.Runs.{goes_on}
use Rattle.kt_loop.proofs.Joining.{joins_last}
use Rattle.kt_loop.proofs.by_run.joins_run.Goals as goal

pub returns : goal.returns
returns g c =
    let some : 0 < length c.args.run.now = search rules in
    c.goes_on_run.ensures ∙ ap (λ (before : RunKey). goes_on before c.run_key-2.result) c.run_key.ensures ∙ ap (goes_on (g.E.RunRecord.key c.index-run-run.result.entry)) c.run_key-2.ensures
    ∙ sym (joins_last g.E.RunRecord.key c.args.run.now c.args.placed.now c.index-run-run.result some c.index-run-run.is)
