use Rattle.std.proofs.Common.{◌≡◌, List, sym, ap, ◌∙◌, arith}
use Rattle.std.proofs.lemmas.Grind.{common_steps}
use Rattle.kt_stream.specs.declared.entry.Placed.{Placed}
use Rattle.kt_loop.specs.Runs.{joins}
use Rattle.kt_loop.proofs.RunLists.{run_longer}
use Rattle.kt_loop.proofs.RunStepping.{joined_step, opening_step, consults_behind}
use Rattle.kt_loop.proofs.by_run.ByRunStage.take.Goals as goal

pub returns-then-joins_run-clause-step : goal.returns-then-joins_run-clause-step
returns-then-joins_run-clause-step g c state at =
    joined_step g.E.RunRecord.key g.C.RunStage.runs c.args.head state.kept c.args.placed.now (λ next. g.C.RunStage.is_at next.kept c.judge_next.new.it.stage c.judge_next.new.beside × (c.judge_next.new.it.run ≡ next.run)) c.judge_next.result
    c.args.self.now.run state.run c.args.out.now at.1
    (ap (λ (run : List (Placed g.row.E.Denot)). joins g.E.RunRecord.key run c.args.placed.now) (sym c.as_slice.ensures.value) ∙ sym c.joins_run.ensures ∙ c.if-joins_run.true) (c.judge_next.ensures.step state.kept at.0)

pub returns-clause-step : goal.returns-clause-step
returns-clause-step g c state at =
    let closed = c.in_default.ensures.closed state.kept at.0 in
    opening_step g.E.RunRecord.key g.C.RunStage.runs c.args.head state.kept c.args.placed.now (λ next. g.C.RunStage.is_at next.kept c.judge_next-2.new.it.stage c.judge_next-2.new.beside × (c.judge_next-2.new.it.run ≡ next.run)) c.judge_next-2.result
    c.args.self.now.run c.close_open.new.it.run state.run c.args.out.now c.close_open.new.out at.1
    (ap (λ (run : List (Placed g.row.E.Denot)). joins g.E.RunRecord.key run c.args.placed.now) (sym c.as_slice.ensures.value) ∙ sym c.joins_run.ensures ∙ c.if-joins_run.false) c.in_default.ensures.emptied closed.0
    (c.judge_next-2.ensures.step state.kept closed.1)

pub returns-clause-counted : goal.returns-clause-counted
returns-clause-counted g c beside = consults_behind _ _ _ c.judge_next-2.result (c.in_default.ensures.counted beside) (c.judge_next-2.ensures.counted beside)

-- the record goes on the open run
pub judge_next-requires-clause-rising : goal.judge_next-requires-clause-rising
judge_next-requires-clause-rising g c =
    run_longer g.E.RunRecord.key c.args.self.now.run c.args.placed.now c.requires.ready.1.1
    (ap (λ (run : List (Placed g.row.E.Denot)). joins g.E.RunRecord.key run c.args.placed.now) (sym c.as_slice.ensures.value) ∙ sym c.joins_run.ensures ∙ c.if-joins_run.true)

pub judge_next-requires-2-clause-rising : goal.judge_next-requires-2-clause-rising
judge_next-requires-2-clause-rising g c = grind (arith, common_steps)

pub judge_next-requires-2-clause-good : goal.judge_next-requires-2-clause-good
judge_next-requires-2-clause-good g c = grind (arith, common_steps)

pub returns-in-Err-clause-step : goal.returns-in-Err-clause-step
returns-in-Err-clause-step g c = grind (arith, common_steps)
