use Rattle.std.proofs.Common.{◌≡◌, ◌∙◌, length, sym, subst}
use Rattle.std.proofs.lemmas.List.{with_items_is}
use Rattle.kt_levels.specs.Policies.{IsPolicy}
use Rattle.kt_levels.proofs.ByLanesLemmas.{layers-more}
use Rattle.kt_levels.proofs.by_lanes.push_layer.Goals as goal

pub returns-clause-value : goal.returns-clause-value
returns-clause-value c = λ before so_far.
    let kept = c.args.room.now.policies in
    let lane = c.policy_lane.new.policy in
    let long : length lane ≡ length kept.items = c.policy_lane.ensures.value.wide ∙ sym c.requires.room.policies in
    let is_policy = subst (IsPolicy c.args.programme.now c.args.lanes.now c.args.climbed.now.width c.args.one.node c.args.one.layer) (sym (c.deref-2.ensures.value ∙ with_items_is kept lane (long ∙ sym kept.ok.0))) c.policy_lane.ensures.value in
    layers-more c.args.programme.now c.args.lanes.now c.args.climbed.now.width c.args.rule c.args.one c.requires.layer c.deref-2.result.now is_policy before c.args.made.now _ c.in_ok-push_shares.ensures.wide c.in_ok-push_shares.ensures.value c.in_ok-push.ensures.ok so_far
