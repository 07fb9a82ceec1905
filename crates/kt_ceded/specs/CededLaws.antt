-- What a place has of all shares, from what it has of the first so many.
-- The rule: docs/FINANCIAL_MODULE.md, "Reinsurance".
use Rattle.std.proofs.Common.{◌≡◌, ℕ, suc, ◌≤◌, cond, nat_eq, List, [], ◌∷◌, length, refl, ap, ◌∙◌, arith}
use Rattle.std.specs.List.{sum_by, zip}
use Rattle.std.proofs.lemmas.List.{take_all}
use Rattle.kt_runs.specs.Adding.{Holds}
use Rattle.kt_ceded.specs.CededShares.{HasShares, share_at, shares_at}

-- as many pairs as keys
pub length-paired : (keys amounts : List ℕ) → length amounts ≡ length keys → length (zip keys amounts) ≡ length keys
length-paired [] amounts same = refl
length-paired (key ∷ keys) [] same = absurd (omega arith)
length-paired (key ∷ keys) (amount ∷ amounts) same = ap suc (length-paired keys amounts (omega arith))

module _ (width : ℕ) (places shares : List ℕ) (has : HasShares width places shares) where
  -- all of them
  pub ceded-all : (k : ℕ) → length places ≤ k → (ceded : List ℕ) → Holds width (shares_at places shares k) ceded → Holds width (share_at places shares) ceded
  ceded-all k past ceded held = record {
    width_is = held.width_is;
    each = λ place inside. held.each place inside ∙ ap (sum_by (λ (pair : ℕ × ℕ). cond (nat_eq pair.0 place) pair.1 0)) (take_all k (zip places shares) (omega (arith, length-paired places shares has.many)));
  }
