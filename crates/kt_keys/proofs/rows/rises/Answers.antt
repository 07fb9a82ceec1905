use Rattle.std.proofs.Common.{◌≡◌, ◌+◌, ◌<◌, ◌++◌, ◌∷◌, [], length, get_or, take, ap, sym, subst, ◌∙◌, arith, All, true, Less}
use Rattle.std.proofs.lemmas.List.{take_more, take_rest}
use Rattle.std.proofs.lemmas.Grind.{get_or_after_one}
use Rattle.std.proofs.lemmas.List.Elements.{All-push}
use Rattle.std.specs.List.{list_any}
use Rattle.std.specs.Ordering.{is_le, is_ge}
use Rattle.kt_keys.proofs.FirstRowLemmas.{refused-step}
use Rattle.kt_keys.proofs.RisingLemmas.{less-from, not_above-itself, still-highest, none-before}
use Rattle.kt_keys.proofs.rows.rises.Goals as goal

pub loop-key-preserved : goal.loop-key-preserved
loop-key-preserved g c =
    let same = g.K.PartialEq.eq in
    let cmp = g.K.Ord.cmp in
    let laws = g.met.K.Eq.laws in
    let total = g.met.K.Ord.total in
    let agree = g.met.K.Ord.matches_eq in
    let keys = c.args.keys.now in
    let key = c.key-item.result in
    let last = c.loop-key.last in
    let i = c.loop-key.key-index + 1 in
    let h : i < length keys = omega (arith, c.loop-key-test.true) in
    let is : key ≡ _ = c.key-item.is ∙ (ap (λ rest. get_or rest c.loop-key.key-index key) (take_rest keys 1) ∙ (get_or_after_one keys c.loop-key.key-index key ∙ ap (λ n. get_or keys n key) (omega arith))) in
    let next : cmp last key ≡ Less = less-from _ (ap is_ge (sym c.cmp.ensures) ∙ (sym c.is_ge.ensures ∙ c.if-is_ge.false)) in
    let more : take (i + 1) keys ≡ take i keys ++ key ∷ [] = take_more keys i key h ∙ ap (λ x. take i keys ++ x ∷ []) (sym is) in
    record {
      highest = subst (All (λ x. is_le (cmp x key) ≡ true)) (sym more) (All-push (λ x. is_le (cmp x key) ≡ true) (take i keys) key (still-highest laws total agree (take i keys) last key next c.loop-key.invariant.highest) (not_above-itself laws total agree key));
      first = refused-step (λ earlier x. list_any (same x) earlier) keys i key _ h is (none-before laws total agree (take i keys) last key next c.loop-key.invariant.highest) c.loop-key.invariant.first;
    }
