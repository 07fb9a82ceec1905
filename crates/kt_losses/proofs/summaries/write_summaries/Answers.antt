use Rattle.std.proofs.Common.{[], true, refl, sym, ap, subst, ◌∙◌}
use Rattle.kt_loop.specs.Runs.{loss_key}
use Rattle.kt_losses.specs.Judged.{judged_outcome, judged_runs, loss_contents, losses_kind}
use Rattle.kt_losses.specs.Summed.{table_of_set}
use Rattle.kt_losses.specs.declared.summing.SummarySet.{SummarySet}
use Rattle.kt_rec.specs.declared.perspective.Perspective.{Perspective}
use Rattle.kt_stream.specs.Losses.{loss_shape}
use Rattle.kt_sum.specs.RunSummaries.{AreOf}
use Rattle.kt_losses.proofs.RunLemmas.{judged_are}
use Rattle.kt_losses.proofs.summaries.write_summaries.Goals as goal

pub run_stage-requires-clause-told : goal.run_stage-requires-clause-told
run_stage-requires-clause-told g c = c.new-reader.ensures.shape ∙ ap loss_shape c.losses_kind.ensures

pub returns : goal.returns
returns g c inputs outputs =
    let items = c.args.items in
    let of : SummarySet = record { items = items; set = c.args.set } in
    let portfolio = c.args.portfolio.now in
    c.run_stage.ensures.ended true (λ files bytes. judged_outcome (table_of_set of) portfolio bytes) inputs outputs (λ unused. refl)
    (λ files bytes finds. record {
      start = record { kept = (of, portfolio); run = [] };
      stood = (
        refl,
        record {
          joins_is = λ placed. refl;
          event_is = λ never. absurd cc;
          none = λ unused. refl;
          are = subst (λ (whose : Perspective). AreOf portfolio whose c.args.set c.in-Ok-new.summaries) c.perspective_of.ensures c.in-Ok-new.ensures.of;
          holds = λ samples ready. absurd (c.in-Ok-new.ensures.unready samples ready);
        },
      );
      is = sym (judged_are table_of_set (λ head entries fault made. c.runs_give_their_text.ensures loss_key (judged_runs table_of_set) made head entries fault) (of, portfolio) (loss_contents items bytes).head (loss_contents items bytes).entries (loss_contents items bytes).fault);
    })
