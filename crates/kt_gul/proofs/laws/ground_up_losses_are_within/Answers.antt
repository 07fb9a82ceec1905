use Rattle.kt_gul.proofs.WithinLemmas.{losses_within}
use Rattle.kt_gul.proofs.laws.ground_up_losses_are_within.Goals as goal

pub returns : goal.returns
returns c = record {
  within = λ samples event cut cdfs are sidx. losses_within c.args.portfolio.now.rows samples cut event cdfs c.is_valid.ensures.valid.in_range are c.keeps_sizes.ensures.kept.values sidx;
}
