use Rattle.std.proofs.Common.{◌≤◌, ◌^◌, ◌∙◌, subst, sym}
use Rattle.kt_rules.specs.Amounts.{total}
use Rattle.kt_rules.specs.declared.carry.Carry.{Carry}
use Rattle.kt_fmtree.specs.PartsLaws.{base-at, base-few}
use Rattle.kt_fmtree.proofs.programme.Programme.policy.Goals as goal

pub apply-requires-clause-few : goal.apply-requires-clause-few
apply-requires-clause-few c =
    let levels = c.requires.levels in
    subst (λ (base : Carry). total base ≤ 10 ^ 16) (sym (c.base.ensures.value ∙ base-at levels.tree levels.loss _ _ levels.is levels.carried_are c.args.node c.base.result c.requires.node))
    (base-few levels.tree levels.is.is levels.loss levels.few _)
