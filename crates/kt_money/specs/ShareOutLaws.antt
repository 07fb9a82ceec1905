-- How far a total is shared out over a list of weights, one after the other.
-- The rule: docs/CALCULATION.md, "Share-out".
use Rattle.std.proofs.Common.{◌≡◌, ℕ, zero, suc, ◌+◌, ◌<◌, ◌≤◌, List, [], ◌∷◌, ◌++◌, length, drop, get_or, refl, sym, ap, ◌∙◌, arith, drop-cons, add-one, append_assoc, append-nil, ◌⊎◌, inl, inr}
use Rattle.std.specs.List.{sum}
use Rattle.std.proofs.lemmas.List.Sums.{sum_by-cons}
use Rattle.kt_money.specs.Sharing.{Sharing, share_of, shares_after, share_out}

pub few-some : (total weights : ℕ) → total ≤ weights → (0 < weights) ⊎ (total ≡ 0)
few-some total zero few = inr (omega arith)
few-some total (suc n) few = inl (omega arith)

-- how far a total has been shared out
pub record IsSharingBy (total : ℕ) (weights now : List ℕ) (sharing : Sharing) (at : ℕ) : Type 0 where
  pub total_is : sharing.total ≡ total
  pub weights_are : sharing.weights ≡ sum weights
  pub left : sharing.given + sum (drop at weights) ≡ sum weights
  pub shares_are : now ++ shares_after total (sum weights) sharing.given (drop at weights) ≡ share_out total weights

pub shares-begin : (total wide : ℕ) (weights : List ℕ) (sharing : Sharing) → wide ≡ sum weights → sharing ≡ record { total = total; weights = wide; given = 0 } → IsSharingBy total weights [] sharing 0
shares-begin total wide weights sharing wide_is sharing_is = record {
  total_is = ap (λ (s : Sharing). s.total) sharing_is;
  weights_are = ap (λ (s : Sharing). s.weights) sharing_is ∙ wide_is;
  left = ap (λ (s : Sharing). s.given + sum weights) sharing_is ∙ none (sum weights);
  shares_are = ap (λ (s : Sharing). shares_after total (sum weights) s.given weights) sharing_is;
}
  where
    none : (n : ℕ) → 0 + n ≡ n
    none n = omega arith

next-weight : (weights : List ℕ) (at : ℕ) → at < length weights → drop at weights ≡ get_or weights at 0 ∷ drop (at + 1) weights
next-weight weights at below = rw (add-one, drop-cons weights at 0) refl

pub shares-fit : (total : ℕ) (weights now : List ℕ) (sharing : Sharing) (at : ℕ) → at < length weights → IsSharingBy total weights now sharing at → sharing.given + get_or weights at 0 ≤ sharing.weights
shares-fit total weights now sharing at below so_far =
    omega (arith, so_far.left, so_far.weights_are, ap sum (next-weight weights at below), sum_by-cons (λ (n : ℕ). n) (get_or weights at 0) (drop (at + 1) weights))

pub shares-go : (total : ℕ) (weights now more : List ℕ) (sharing after : Sharing) (at share : ℕ) → at < length weights → IsSharingBy total weights now sharing at
    → share ≡ share_of sharing.total sharing.weights sharing.given (get_or weights at 0)
    → after ≡ record sharing { given = sharing.given + get_or weights at 0 }
    → more ≡ now ++ share ∷ []
    → IsSharingBy total weights more after (at + 1)
shares-go total weights now more sharing after at share below so_far share_is after_is more_is =
    let w = get_or weights at 0 in
    let next = next-weight weights at below in
    let given : after.given ≡ sharing.given + w = ap (λ (s : Sharing). s.given) after_is in
    let same : share ≡ share_of total (sum weights) sharing.given w = share_is ∙ (ap (λ t. share_of t sharing.weights sharing.given w) so_far.total_is ∙ ap (λ n. share_of total n sharing.given w) so_far.weights_are) in
    record {
      total_is = ap (λ (s : Sharing). s.total) after_is ∙ so_far.total_is;
      weights_are = ap (λ (s : Sharing). s.weights) after_is ∙ so_far.weights_are;
      left = omega (arith, given, so_far.left, ap sum next, sum_by-cons (λ (n : ℕ). n) w (drop (at + 1) weights));
      shares_are =
          ap (λ ns. ns ++ shares_after total (sum weights) after.given (drop (at + 1) weights)) more_is
          ∙ (append_assoc now _ _
          ∙ (ap (λ g. now ++ (share ∷ shares_after total (sum weights) g (drop (at + 1) weights))) given
          ∙ (ap (λ s. now ++ (s ∷ shares_after total (sum weights) (sharing.given + w) (drop (at + 1) weights))) same
          ∙ (ap (λ ws. now ++ shares_after total (sum weights) sharing.given ws) (sym next) ∙ so_far.shares_are))));
    }

pub shares-end : (total : ℕ) (weights now : List ℕ) (sharing : Sharing) → IsSharingBy total weights now sharing (length weights) → now ≡ share_out total weights
shares-end total weights now sharing so_far =
    sym (append-nil now) ∙ (ap (λ ws. now ++ shares_after total (sum weights) sharing.given ws) (sym (none weights)) ∙ so_far.shares_are)
  where
    none : (weights : List ℕ) → drop (length weights) weights ≡ []
    none [] = refl
    none (w ∷ weights) = none weights
