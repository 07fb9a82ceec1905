use Rattle.std.proofs.Common.{◌≡◌, ◌∙◌, Vec, ℕ, ap, length, replicate, sym, ne_eqb}
use Rattle.std.proofs.lemmas.Result.{IfOk-weaker}
use Rattle.std.specs.declared.alloc.Global.{Global}
use Rattle.kt_fmtree.specs.Tree.{beneath, policy_loss}
use Rattle.kt_levels.proofs.RowLemmas.{nothing-shared, only-share, top-is}
use Rattle.kt_levels.proofs.row.shares_of.Goals as goal

pub returns-then-ids-eq1 : goal.returns-then-ids-eq1
returns-then-ids-eq1 c = record {
  value =
      IfOk-weaker c.whole-then-ids-eq1.result _ _
      (λ (made : Vec ℕ Global) made_is tree loss is carried.
      let top = top-is tree c.args.programme.now is c.args.one c.requires.layer in
      let width : length (beneath tree c.args.one.top) ≡ 1 = sym (ap length (c.beneath-ids.ensures.tree tree is ∙ ap (beneath tree) top)) ∙ c.if-ids-eq1.true in
      made_is ∙ only-share tree is.is loss c.args.rule c.args.one.top c.args.one.layer (ne_eqb c.args.rule 0 c.if-rule-eq0.false) width c.args.policy (c.requires.policy tree loss is carried ∙ ap (λ n. policy_loss tree loss n c.args.one.layer) top))
      c.whole-then-ids-eq1.ensures.value;
}

pub returns-then-policy-eq0 : goal.returns-then-policy-eq0
returns-then-policy-eq0 c = record {
  value =
      IfOk-weaker c.zeros.result _ _
      (λ (made : Vec ℕ Global) made_is tree loss is carried.
      let top = top-is tree c.args.programme.now is c.args.one c.requires.layer in
      let width : length c.beneath-ids.result.now ≡ length (beneath tree c.args.one.top) = ap length (c.beneath-ids.ensures.tree tree is ∙ ap (beneath tree) top) in
      let none : policy_loss tree loss c.args.one.top c.args.one.layer ≡ 0 =
      ap (λ n. policy_loss tree loss n c.args.one.layer) (sym top) ∙ (sym (c.requires.policy tree loss is carried) ∙ c.if-policy-eq0.true) in
      made_is ∙ (ap (λ n. replicate n 0) width ∙ nothing-shared tree is.is loss c.args.rule c.args.one.top c.args.one.layer (ne_eqb c.args.rule 0 c.if-rule-eq0.false) none))
      c.zeros.ensures.value;
}
