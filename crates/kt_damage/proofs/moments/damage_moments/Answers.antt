use Rattle.kt_damage.proofs.StepLemmas.{moments_are}
use Rattle.kt_damage.proofs.moments.damage_moments.Goals as goal

pub returns : goal.returns
returns c =
    let whole = c.whole_moments-moments in
    record {
      value = moments_are c.args.bins.now whole.result.mean whole.result.deviation _ whole.ensures.mean whole.ensures.deviation whole.ensures.most_deviation c.scaled.ensures.least c.scaled.ensures.most c.scaled-2.ensures.least c.scaled-2.ensures.most;
    }
