use Rattle.std.proofs.Common.{◌∙◌, false}
use Rattle.std.proofs.lemmas.Result.{IfOk-weaker}
use Rattle.kt_fmtree.specs.AllocateLaws.{beneath-rises, leaves-places, shared-few, down-are}
use Rattle.kt_fmtree.proofs.allocation.shared_down.Goals as goal

pub parts_by_id-requires-clause-rising : goal.parts_by_id-requires-clause-rising
parts_by_id-requires-clause-rising c = beneath-rises c.args.programme.now c.args.levels.now c.requires.levels c.args.node c.requires.node c.beneath.result.now c.beneath.ensures.value

pub parts_by_id-requires-clause-places : goal.parts_by_id-requires-clause-places
parts_by_id-requires-clause-places c = leaves-places c.args.programme.now c.args.levels.now c.requires.levels false c.args.node c.policy_of-policy.result c.requires.node c.policy_of-policy.ensures.few c.deref.result.now (c.deref.ensures.value ∙ c.in_ok-parts.ensures.value)

pub parts_by_id-requires-clause-few : goal.parts_by_id-requires-clause-few
parts_by_id-requires-clause-few c = shared-few c.args.programme.now c.args.levels.now c.requires.levels c.args.node c.policy_of-policy.result c.requires.node c.policy_of-policy.ensures.few c.deref.result.now (c.deref.ensures.value ∙ c.in_ok-parts.ensures.value)

pub returns : goal.returns
returns c = record {
  value = IfOk-weaker c.parts_by_id.result _ _ (λ amounts known tree loss is are.
      down-are c.args.programme.now c.args.levels.now c.requires.levels c.args.node c.args.layer c.policy_of-policy.result c.requires.node c.policy_of-policy.ensures.few tree loss is are (c.policy_of-policy.ensures.value tree loss is are) c.deref.result.now c.beneath.result.now _
      (c.deref.ensures.value ∙ c.in_ok-parts.ensures.value) c.beneath.ensures.value known) c.parts_by_id.ensures.value;
}
