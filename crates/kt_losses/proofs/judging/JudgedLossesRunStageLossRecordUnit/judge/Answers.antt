use Rattle.std.proofs.Common.{◌≡◌, Bool, true, List, ◌++◌, ◌∷◌, [], length, sym, subst, ◌∙◌}
use Rattle.kt_losses.specs.Judged.{is_known}
use Rattle.kt_loop.specs.Runs.{bare}
use Rattle.kt_runs.specs.RunSums.{AreRunSums}
use Rattle.kt_stream.specs.declared.entry.LossRecord.{LossRecord}
use Rattle.kt_losses.proofs.RunLemmas.{bare_more, front_whole, known_more}
use Rattle.kt_losses.proofs.judging.JudgedLossesRunStageLossRecordUnit.judge.Goals as goal

pub returns-clause-ready : goal.returns-clause-ready
returns-clause-ready g c =
    let samples = c.args.head.samples in
    let run = c.args._run.now in
    let placed = c.args.placed.now in
    let sums = c.add_to_run.new.sums in
    let items : Bool = (g.T.LossTool.table c.args.self.now.tool).items in
    let rows = c.args.self.now.portfolio.now.rows in
    let long : c.args.self.now.sums.len ≡ length sums = sym (c.add_to_run.auto.sums ∙ c.deref_mut.ensures.len) in
    let kept = c.add_to_run.ensures.kept (bare run) (subst (AreRunSums samples (bare run)) (sym c.deref_mut.ensures.value) c.requires.ready.0) c.if-not-add_to_run.false in
    let found = c.is_among.ensures.value in
    let has = c.if-not-is_among.false in
    let as_set = c.requires.ready.1.0 placed.entry.id in
    let is : is_known items rows placed.entry.id ≡ true = cc in (
      subst (AreRunSums samples (bare (run ++ placed ∷ []))) (sym (front_whole sums _ _ long)) (subst (λ (records : List LossRecord). AreRunSums samples records sums) (sym (bare_more run placed)) kept),
      (c.requires.ready.1.0, (c.requires.ready.1.1.0, known_more items rows run placed c.requires.ready.1.1.1 is)),
    )
