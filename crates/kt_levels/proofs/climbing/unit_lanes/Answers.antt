use Rattle.std.proofs.Common.{◌≡◌, ◌∙◌, ◌<◌, ℕ, List, All, ap, length, slice_index_or, subst, sym}
use Rattle.std.proofs.lemmas.List.{length-replicate}
use Rattle.kt_fmtree.specs.declared.node.Node.{Node}
use Rattle.kt_lanes.specs.Lanes.{column, IsLane}
use Rattle.kt_levels.specs.Units.{CanTake, unit_loss}
use Rattle.kt_levels.proofs.LaneLemmas.{mapped-all, mapped-more, mapped-none, written-over}
use Rattle.kt_levels.proofs.climbing.unit_lanes.Goals as goal

-- a unit of many that can be taken, where the width is spelled otherwise
can-at : (width other : ℕ) (below : List (List ℕ)) (nodes : List Node) (i : ℕ) (d : Node) → All (CanTake width below) nodes → i < length nodes → other ≡ width → CanTake other below (slice_index_or nodes i d)
can-at width other below nodes i d can inside same = subst (λ (n : ℕ). CanTake n below (slice_index_or nodes i d)) (sym same) (can i d inside)

-- a lane as it stands after it was written over is one of that width
lane-is : (width : ℕ) (amount : ℕ → ℕ) (before new lane : List ℕ) → length before ≡ width → IsLane (length before) amount new → lane ≡ new → IsLane width amount lane
lane-is width amount before new lane wide is same =
    subst (IsLane width amount) (sym same) (subst (λ n. IsLane n amount new) wide is)

pub loop-node-init : goal.loop-node-init
loop-node-init c = record {
  lane = ap length c.in_ok-lane.ensures.value ∙ length-replicate c.args.width 0;
  lanes = mapped-none c.args.width (λ k. unit_loss (column k c.args.below.now)) c.args.nodes.now c.in_ok-lanes.lanes c.in_ok-lanes.ensures.value;
}

pub take_unit-requires-clause-can : goal.take_unit-requires-clause-can
take_unit-requires-clause-can c =
    can-at _ _ _ _ _ _ c.requires.can c.loop-node-test.true (ap length c.deref_mut.ensures.value ∙ c.loop-node.invariant.lane)

pub take_unit-requires-clause-wide : goal.take_unit-requires-clause-wide
take_unit-requires-clause-wide c = λ k d inside. c.requires.wide k d inside ∙ sym (ap length c.deref_mut.ensures.value ∙ c.loop-node.invariant.lane)

pub push-requires : goal.push-requires
push-requires c =
    let long = c.deref.ensures.len ∙ (c.loop-node.lane.ok.0 ∙ c.loop-node.invariant.lane) in
    record { wide = λ k d inside. c.loop-node.invariant.lanes.wide k d inside ∙ sym long }

pub loop-node-preserved : goal.loop-node-preserved
loop-node-preserved c =
    let before = ap length c.deref_mut.ensures.value ∙ c.loop-node.invariant.lane in
    let written = written-over c.loop-node.lane.len c.take_unit.new.lane c.loop-node.lane.items (c.take_unit.ensures.value.wide ∙ c.deref_mut.ensures.len) in
    record {
      lane = ap length written ∙ (c.take_unit.ensures.value.wide ∙ before);
      lanes =
          mapped-more c.args.width (λ k. unit_loss (column k c.args.below.now)) c.args.nodes.now c.loop-node.node-index _ c.loop-node-test.true c.loop-node.lanes c.push.new.self c.deref.result.now c.loop-node.invariant.lanes
          (lane-is c.args.width _ c.deref_mut.result.now c.take_unit.new.lane c.deref.result.now before c.take_unit.ensures.value (c.deref.ensures.value ∙ written))
          c.in_ok-push.ensures.ok;
    }

pub returns : goal.returns
returns c = record {
  value = mapped-all c.args.width (λ k. unit_loss (column k c.args.below.now)) c.args.nodes.now c.loop-node.node-index c.loop-node.auto.node-index-end c.loop-node-test.false c.loop-node.lanes c.loop-node.invariant.lanes;
}
