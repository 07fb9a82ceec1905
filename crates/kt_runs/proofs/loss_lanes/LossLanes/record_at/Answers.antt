use Rattle.std.proofs.Common.{◌∙◌, ℕ, ap, sym}
use Rattle.kt_runs.specs.LaneRows.{pairs_with}
use Rattle.kt_runs.proofs.loss_lanes.LossLanes.record_at.Goals as goal

pub returns : goal.returns
returns c = record {
  value = λ d.
      let pairs_are = c.in_ok-pairs.ensures.value ∙ (ap (λ (n : ℕ). pairs_with n c.lane.result.now) (c.deviation.ensures.value d) ∙ sym (c.lane.ensures.pairs d)) in
      λ i. record { event = c.event.ensures.value d i; id = c.id.ensures.value d i; pairs = pairs_are i };
}
