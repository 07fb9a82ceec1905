use Rattle.std.proofs.Common.{◌≡◌, List, [], ◌∷◌, ◌++◌, refl, sym, ap, ◌∙◌, rules, arith}
use Rattle.std.proofs.lemmas.Grind.{common_steps}
use Rattle.kt_stream.specs.declared.entry.Placed.{Placed}
use Rattle.kt_loop.specs.ByRun.{judged}
use Rattle.kt_loop.proofs.by_run.judge_next.Goals as goal

pub returns-clause-step : goal.returns-clause-step
returns-clause-step g c kept at =
    let next : c.push.new.self ≡ c.args.it.now.run ++ c.args.placed.now ∷ [] = search rules in
    record {
      next = record { kept = kept; run = c.args.it.now.run ++ c.args.placed.now ∷ [] };
      reached = ap (judged kept c.args.it.now.run c.args.placed.now) (ap (λ (run : List (Placed g.row.E.Denot)). g.C.RunStage.runs.refuses c.args.head kept run c.args.placed.now) (sym c.as_slice.ensures.value) ∙ (c.in_default.ensures.judged kept at).0);
      state = ((c.in_default.ensures.judged kept at).1, next);
      wrote = refl;
    }

pub returns-clause-good : goal.returns-clause-good
returns-clause-good g c = grind (arith, common_steps)

pub returns-clause-ready : goal.returns-clause-ready
returns-clause-ready g c = grind (arith, common_steps)

pub returns-in-Err-clause-step : goal.returns-in-Err-clause-step
returns-in-Err-clause-step g c = grind (arith, common_steps)

pub returns-then-is_err-clause-step : goal.returns-then-is_err-clause-step
returns-then-is_err-clause-step g c = grind (arith, common_steps)
