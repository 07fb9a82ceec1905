use Rattle.std.proofs.Common.{Ok, Err, ap, sym, subst}
use Rattle.kt_chain.specs.Rounds.{FitsRun}
use Rattle.kt_chain.specs.Runs.{RunShares}
use Rattle.kt_chain.proofs.TextLemmas.{kept_made}
use Rattle.kt_chain.proofs.TextFoldLemmas.{same_rows}
use Rattle.kt_chain.proofs.rounds.write_kept.Goals as goal

pub returns-in-Ok-clause-made : goal.returns-in-Ok-clause-made
returns-in-Ok-clause-made g c = λ keeps text.
    kept_made c.run.inside.files.now c.args.run.now.files (ap (λ (r : RunShares). r.files) c.run.view_is) c.samples.result c.args.fold.now.inner.cells.samples c.samples.ensures.value
    c.portfolio.result.now.rows c.args.fold.now.inner.rows c.portfolio.ensures c.kept.result.now c.args.fold.now.inner.kept c.kept.ensures c.as_slice.result.now
    (g.O.Outputs.state c.args.outputs.now) (g.O.Outputs.state c.append_texts-answer.new.outputs) (Ok tt) text (c.in-Ok.ensures.made tt (same_rows c.args.fold.now.inner.cells.samples c.samples.result c.samples.ensures.value c.args.fold.now.inner.rows c.portfolio.result.now.rows c.portfolio.ensures c.args.fold.now.made.items c.as_slice.result.now c.as_slice.ensures.value c.args.fold.now.inner.kept c.kept.result.now c.kept.ensures keeps) text)

pub returns-in-Ok-clause-fits : goal.returns-in-Ok-clause-fits
returns-in-Ok-clause-fits g c = subst (FitsRun c.args.run.now.terms.samples) (sym c.let_go.ensures.fold) c.requires.fits

pub returns-in-Err-clause-made : goal.returns-in-Err-clause-made
returns-in-Err-clause-made g c = λ keeps text.
    kept_made c.run.inside.files.now c.args.run.now.files (ap (λ (r : RunShares). r.files) c.run.view_is) c.samples.result c.args.fold.now.inner.cells.samples c.samples.ensures.value
    c.portfolio.result.now.rows c.args.fold.now.inner.rows c.portfolio.ensures c.kept.result.now c.args.fold.now.inner.kept c.kept.ensures c.as_slice.result.now
    (g.O.Outputs.state c.args.outputs.now) (g.O.Outputs.state c.append_texts-answer.new.outputs) (Err c.in-Err.fault) text (c.in-Err.ensures.made tt (same_rows c.args.fold.now.inner.cells.samples c.samples.result c.samples.ensures.value c.args.fold.now.inner.rows c.portfolio.result.now.rows c.portfolio.ensures c.args.fold.now.made.items c.as_slice.result.now c.as_slice.ensures.value c.args.fold.now.inner.kept c.kept.result.now c.kept.ensures keeps) text)
