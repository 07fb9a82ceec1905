use Rattle.std.proofs.Common.{true, [], refl, ap, ◌∙◌}
use Rattle.kt_stream.specs.Bins.{cdf_shape}
use Rattle.kt_front.specs.GulOutcome.{GulMade, cdf_contents, gul_outcome}
use Rattle.kt_front.proofs.GulLemmas.{same_losses}
use Rattle.kt_front.proofs.gulcalc.write_ground_up.Goals as goal

pub run_by_run-requires-clause-told : goal.run_by_run-requires-clause-told
run_by_run-requires-clause-told g c = c.new-reader.ensures.shape ∙ ap cdf_shape c.bin_count.ensures

pub returns : goal.returns
returns g c inputs outputs =
    let rows = c.args.portfolio.now.rows in
    let made : GulMade = ((c.args.samples, c.args.cut), c.args.portfolio.now) in
    c.run_by_run.ensures.ended true (λ files bytes. gul_outcome c.args.samples c.args.cut rows bytes) inputs outputs (λ unused. refl)
    (λ files bytes finds. record {
      start = record { kept = made; run = [] };
      stood = ((refl, refl, refl), refl);
      is = same_losses made c.runs_give_their_text.ensures c.runs_give_their_text-2.ensures (cdf_contents rows bytes).head (cdf_contents rows bytes).entries (cdf_contents rows bytes).fault;
    })
