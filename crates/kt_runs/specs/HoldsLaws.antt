-- Sums by place, and one more amount.
-- The rule: docs/FINANCIAL_MODULE.md, "Allocation".
use Rattle.std.specs.Prelude.{◌≡◌, ◌≢◌, ◌⊎◌, ℕ, ◌+◌, ◌<◌, Bool, true, false, cond, nat_eq, List, slice_index, slice_index_or}
use Rattle.std.specs.Cmp.{nat_eq_equiv}
use Rattle.std.proofs.Common.{inl, inr, slice_set, refl, sym, ap, ◌∙◌, arith}
use Rattle.std.proofs.lemmas.Bool.{cases_eq, eqb-true}
use Rattle.std.proofs.lemmas.List.{get_or-set_same, get_or-set_other, length-set}
use Rattle.kt_runs.specs.Adding.{Holds}

-- numbers that differ are not equal
pub apart : (one other : ℕ) → (one ≡ other → ⊥) → nat_eq one other ≡ false
apart one other differ = by (nat_eq one other) refl
  where
    by : (b : Bool) → nat_eq one other ≡ b → b ≡ false
    by true is = absurd (differ (eqb-true one other is))
    by false is = refl

-- sums hold one more amount where it is added at its place
pub holds-more : (width : ℕ) (before now : ℕ → ℕ) (sums : List ℕ) → Holds width before sums → (at amount : ℕ) → at < width → ((place : ℕ) → now place ≡ before place + cond (nat_eq at place) amount 0) → Holds width now (slice_set sums at (slice_index_or sums at 0 + amount))
holds-more width before now sums held at amount inside more = record {
  width_is = length-set sums at _ ∙ held.width_is;
  each = λ k within. by k within (cases_eq k at);
}
  where
    by : (k : ℕ) → k < width → (k ≡ at) ⊎ (k ≢ at) → slice_index (slice_set sums at (slice_index_or sums at 0 + amount)) k ≡ now k
    by k within (inl same) =
        ap (slice_index (slice_set sums at (slice_index_or sums at 0 + amount))) same
        ∙ (get_or-set_same sums at (slice_index_or sums at 0 + amount) 0 (omega (arith, held.width_is))
        ∙ (omega (arith, held.each at inside, more at, ap (λ b. cond b amount 0) (nat_eq_equiv.refl at))
        ∙ ap now (sym same)))
    by k within (inr differ) =
        get_or-set_other sums at k _ 0 differ
        ∙ omega (arith, held.each k within, more k, ap (λ b. cond b amount 0) (apart at k (λ same. differ (sym same))))
