-- What the key of a row has so far, and the row at which that is more than the most.
use Rattle.std.proofs.Common.{◌≡◌, ℕ, ◌+◌, ◌<◌, ◌≤◌, ◌++◌, ◌∷◌, [], length, take, ap, sym, ◌∙◌, arith, unwrap_or, Option}
use Rattle.std.specs.Prelude.{nat_lt}
use Rattle.std.proofs.lemmas.Bool.{le-ltb, lt-ltb}
use Rattle.std.specs.HashMap.{get}
use Rattle.kt_keys.specs.FirstRow.{total_of}
use Rattle.kt_keys.specs.TotalLaws.{total_of-push}
use Rattle.kt_keys.proofs.FirstRowLemmas.{total_of-step, value-step, cond-le, refused-step, refused-here}
use Rattle.kt_keys.proofs.rows.first_above.Goals as goal

-- what the key had before, as it was looked up
looked_up : (before total : ℕ) (copied found : Option ℕ) → before ≡ unwrap_or copied 0 → copied ≡ found → unwrap_or found 0 ≡ total → before ≡ total
looked_up before total copied found was is known = was ∙ (ap (λ o. unwrap_or o 0) is ∙ known)

pub overflow_sub-most : goal.overflow_sub-most
overflow_sub-most g c =
    let part = c.index-parts-index.result in
    let was = looked_up _ (total_of g.K.PartialEq.eq (take c.loop-index.index c.args.parts.now) part.0) _ _ c.unwrap_or-before.ensures (c.copied.ensures ∙ c.get.ensures.value) (c.loop-index.invariant.totals part.0) in
    omega (arith, was, c.loop-index.invariant.within part.0)

pub returns-then-amount-most : goal.returns-then-amount-most
returns-then-amount-most g c =
    let same = g.K.PartialEq.eq in
    let part = c.index-parts-index.result in
    let parts = c.args.parts.now in
    let i = c.loop-index.index in
    let was = looked_up _ (total_of same (take i parts) part.0) _ _ c.unwrap_or-before.ensures (c.copied.ensures ∙ c.get.ensures.value) (c.loop-index.invariant.totals part.0) in
    let over : c.args.most < total_of same (take i parts) part.0 + part.1 = omega (arith, was, c.if-amount-most.true, c.loop-index.invariant.within part.0) in
    record { value = refused-here (λ earlier x. nat_lt c.args.most (total_of same (earlier ++ x ∷ []) x.0)) parts i part _ (omega arith) c.index-parts-index.is (rw (total_of-push g.met.K.Eq.laws (take i parts) part) (lt-ltb _ _ over)) c.loop-index.invariant.first }

pub loop-index-preserved : goal.loop-index-preserved
loop-index-preserved g c =
    let same = g.K.PartialEq.eq in
    let part = c.index-parts-index.result in
    let parts = c.args.parts.now in
    let i = c.loop-index.index in
    let laws = g.met.K.Eq.laws in
    let h : i < length parts = omega arith in
    let is : part ≡ _ = c.index-parts-index.is in
    let was = looked_up _ (total_of same (take i parts) part.0) _ _ c.unwrap_or-before.ensures (c.copied.ensures ∙ c.get.ensures.value) (c.loop-index.invariant.totals part.0) in
    let fits : total_of same (take i parts) part.0 + part.1 ≤ c.args.most = omega (arith, c.loop-index.invariant.within part.0) in
    record {
      totals = λ key. value-step (same part.0 key) _ (get same c.loop-index.totals key) (c.unwrap_or-before.result + part.1) _ (total_of same (take i parts) part.0 + part.1) (c.in_ok-insert.ensures.updates.0 key) (c.loop-index.invariant.totals key) (ap (λ n. n + part.1) was) ∙ sym (total_of-step laws parts i part h is key);
      within = λ key. rw (total_of-step laws parts i part h is key) (cond-le (same part.0 key) _ _ c.args.most fits (c.loop-index.invariant.within key));
      first = refused-step (λ earlier x. nat_lt c.args.most (total_of same (earlier ++ x ∷ []) x.0)) parts i part _ h is (rw (total_of-push laws (take i parts) part) (le-ltb _ _ fits)) c.loop-index.invariant.first;
    }
