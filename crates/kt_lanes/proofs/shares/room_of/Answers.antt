use Rattle.std.proofs.Common.{◌∙◌, ap, length}
use Rattle.std.proofs.lemmas.List.{length-replicate}
use Rattle.kt_lanes.proofs.shares.room_of.Goals as goal

pub returns : goal.returns
returns c = record {
  room = record {
    weights = ap length c.in_ok-weights.ensures.value ∙ length-replicate c.args.width 0;
    ratios = c.in_ok-ratios.ensures.wide;
    upto = ap length c.in_ok-upto.ensures.value ∙ length-replicate c.args.width 0;
    paid = ap length c.in_ok-paid.ensures.value ∙ length-replicate c.args.width 0;
    due = ap length c.in_ok-due.ensures.value ∙ length-replicate c.args.width 0;
  };
}
