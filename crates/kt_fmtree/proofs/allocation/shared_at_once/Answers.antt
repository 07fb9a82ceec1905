use Rattle.std.proofs.Common.{◌∙◌, ap₂}
use Rattle.std.proofs.lemmas.Result.{IfOk-weaker}
use Rattle.kt_money.specs.Sharing.{share_out}
use Rattle.kt_fmtree.specs.AllocateLaws.{losses-few}
use Rattle.kt_fmtree.proofs.allocation.shared_at_once.Goals as goal

pub shares-requires-clause-few : goal.shares-requires-clause-few
shares-requires-clause-few c =
    let levels = c.requires.levels in
    let losses = c.deref.ensures.value ∙ c.in_ok-losses.ensures.value levels.tree levels.loss levels.is levels.carried_are in
    let policy = c.policy_of-policy.ensures.value levels.tree levels.loss levels.is levels.carried_are in
    let both = losses-few c.args.programme.now c.args.levels.now levels c.args.node c.args.layer c.policy_of-policy.result c.deref.result.now policy losses in
    both.1

pub shares-requires-clause-most : goal.shares-requires-clause-most
shares-requires-clause-most c =
    let levels = c.requires.levels in
    let losses = c.deref.ensures.value ∙ c.in_ok-losses.ensures.value levels.tree levels.loss levels.is levels.carried_are in
    let policy = c.policy_of-policy.ensures.value levels.tree levels.loss levels.is levels.carried_are in
    let both = losses-few c.args.programme.now c.args.levels.now levels c.args.node c.args.layer c.policy_of-policy.result c.deref.result.now policy losses in
    both.0

pub returns : goal.returns
returns c = record {
  value = IfOk-weaker c.shares.result _ _ (λ amounts known tree loss is are. known ∙ ap₂ share_out (c.policy_of-policy.ensures.value tree loss is are) (c.deref.ensures.value ∙ c.in_ok-losses.ensures.value tree loss is are)) c.shares.ensures.value;
}
