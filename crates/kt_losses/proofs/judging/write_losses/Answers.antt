use Rattle.std.proofs.Common.{true, [], refl, sym, ap, ◌∙◌}
use Rattle.kt_loop.specs.Runs.{loss_key}
use Rattle.kt_losses.specs.Judged.{judged_outcome, judged_runs, loss_contents, losses_kind}
use Rattle.kt_stream.specs.Losses.{loss_shape}
use Rattle.kt_losses.proofs.RunLemmas.{judged_are}
use Rattle.kt_losses.proofs.judging.write_losses.Goals as goal

pub run_by_run-requires-clause-told : goal.run_by_run-requires-clause-told
run_by_run-requires-clause-told g c = c.new-reader.ensures.shape ∙ ap loss_shape (c.losses_kind.ensures ∙ ap losses_kind c.of_items-2.ensures)

pub returns : goal.returns
returns g c inputs outputs =
    let table = g.T.LossTool.table c.args.tool in
    let portfolio = c.args.portfolio.now in
    c.run_by_run.ensures.ended true (λ files bytes. judged_outcome table portfolio bytes) inputs outputs (λ unused. refl)
    (λ files bytes finds. record {
      start = record { kept = (c.args.tool, portfolio); run = [] };
      stood = ((refl, refl), refl);
      is = sym (judged_are g.T.LossTool.table (λ head entries fault made. c.runs_give_their_text.ensures loss_key (judged_runs g.T.LossTool.table) made head entries fault) (c.args.tool, portfolio) (loss_contents table.items bytes).head (loss_contents table.items bytes).entries (loss_contents table.items bytes).fault);
    })
