use Rattle.std.proofs.Common.{◌∙◌, length, ap}
use Rattle.std.proofs.lemmas.List.{length-replicate}
use Rattle.kt_levels.proofs.by_lanes.layer_room.Goals as goal

pub returns : goal.returns
returns c = record {
  room = λ parts lanes. record {
    sums = c.in_ok-sums.ensures.sums parts lanes;
    levels = c.in_ok-levels.ensures.room;
    policies = ap length c.in_ok-policies.ensures.value ∙ length-replicate c.args.width 0;
  };
}
