use Rattle.std.proofs.Common.{ℕ, ◌≤◌, ◌^◌, sym, subst}
use Rattle.kt_fmtree.specs.AllocateLaws.{policy-few}
use Rattle.kt_fmtree.proofs.allocation.policy_of.Goals as goal

pub returns-clause-few : goal.returns-clause-few
returns-clause-few c =
    let levels = c.requires.levels in
    subst (λ (n : ℕ). n ≤ 10 ^ 16) (sym (c.policy.ensures.value levels.tree levels.loss levels.is levels.carried_are)) (policy-few c.args.programme.now c.args.levels.now levels _ c.args.layer)
