-- The loss of a return period, by the losses of two ranks.
use Rattle.kt_ranks.specs.RankLaws.{loss_from_ranked}
use Rattle.kt_ranks.proofs.exceedance.exceedance_loss.Goals as goal

pub returns : goal.returns
returns c = record {
  value = λ values has. loss_from_ranked c.args.count c.args.period c.from.result c.between.result c.loss_of_rank-upper.result c.loss_of_rank-lower.result c.args.ranked.now values has c.from.ensures
      c.loss_of_rank-upper.ensures.value c.loss_of_rank-lower.ensures.value c.between.ensures.value;
}
