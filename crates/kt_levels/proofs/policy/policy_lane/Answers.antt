use Rattle.std.proofs.Common.{◌≤◌, ◌<◌, ◌^◌, ◌∙◌, sym, subst}
use Rattle.kt_levels.specs.Policies.{IsTopBase}
use Rattle.kt_levels.specs.PoliciesLaws.{policies, top-few}
use Rattle.kt_levels.proofs.policy.policy_lane.Goals as goal
use Rattle.kt_levels.proofs.policy.policy_lane.Goals.{After-copy_from_slice}

-- what comes to the top
base-is : (c : After-copy_from_slice) → IsTopBase c.args.programme.now c.args.lanes.now c.args.climbed.now.width c.args.node c.copy_from_slice.new.self
base-is c = subst (IsTopBase c.args.programme.now c.args.lanes.now c.args.climbed.now.width c.args.node) (sym (c.copy_from_slice.ensures.after ∙ c.deref.ensures.value)) c.sum_top.ensures.value

pub apply_lane-requires-clause-few : goal.apply_lane-requires-clause-few
apply_lane-requires-clause-few c = λ k less.
    let base = base-is (goal.at.apply_lane-requires-clause-few c).After-copy_from_slice in
    let below : k < c.args.climbed.now.width = subst (λ n. k < n) base.wide less in
    subst (λ n. n ≤ 10 ^ 16) (sym (base.each k below)) (top-few c.args.programme.now c.is_of_a_tree.ensures.kept c.args.lanes.now c.args.climbed.now c.requires.climbed c.args.node c.requires.node k below)

pub returns-clause-value : goal.returns-clause-value
returns-clause-value c =
    let base = base-is (goal.at.returns-clause-value c).After-copy_from_slice in
    policies c.args.programme.now c.is_of_a_tree.ensures.kept c.args.lanes.now c.args.climbed.now c.requires.climbed c.args.node c.requires.node c.args.layer c.layer_terms-terms.result.now c.top_tiv.result c.layer_terms-terms.ensures.value
    c.top_tiv.ensures.value c.requires.plain c.copy_from_slice.new.self c.apply_lane.new.lane base c.apply_lane.ensures.value
