use Rattle.std.proofs.Common.{◌++◌, ◌∙◌, ℕ, List, ap, arith, map, refl, sym, ne_eqb, take_all}
use Rattle.kt_fmtree.specs.LoopLaws.{behind-goes}
use Rattle.kt_alloc.proofs.KeyLemmas.{keys-shared}
use Rattle.kt_alloc.proofs.layout.push_keys.Goals as goal

pub loop-owner-preserved : goal.loop-owner-preserved
loop-owner-preserved c =
    behind-goes c.args.keys.now.items (λ (owner : ℕ). (owner, c.args.one.layer)) c.beneath-owners.result.now c.loop-owner.owner-index 0 c.loop-owner.keys.items _ _ c.loop-owner-test.true c.loop-owner.invariant c.in_ok-push-2.ensures.items refl

pub returns : goal.returns
returns c = record {
  ok = λ tree is.
      c.loop-owner.invariant
      ∙ ap (λ (rest : List (ℕ × ℕ)). c.args.keys.now.items ++ rest) (ap (map (λ owner. (owner, c.args.one.layer))) (take_all c.loop-owner.owner-index c.beneath-owners.result.now (omega (arith, c.loop-owner-test.false)) ∙ c.beneath-owners.ensures.value)
      ∙ sym (keys-shared tree c.args.programme.now is c.args.rule c.args.one (ne_eqb c.args.rule 0 c.if-rule-eq0.false) c.requires.layer));
}
