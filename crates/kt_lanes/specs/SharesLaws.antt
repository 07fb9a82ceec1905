-- Laws of totals that are shared out over lanes.
-- The rule: docs/CALCULATION.md, "Share-out".
use Rattle.std.specs.Prelude.{◌≡◌, ℕ, zero, suc, ◌+◌, ◌-◌, ◌*◌, ◌/◌, ◌<◌, ◌≤◌, List, [], ◌∷◌, ◌++◌, length, slice_index, slice_index_or, take, replicate}
use Rattle.std.specs.List.{sum}
use Rattle.std.proofs.Common.{append_assoc, append-nil, refl, sym, ap, subst, ◌∙◌, arith}
use Rattle.std.proofs.Math.Nat.{div-zero, mul-div_cancel, zero-div}
use Rattle.std.proofs.lemmas.List.{get_or-replicate, length-map, length-replicate, take_more, take_all, take-map}
use Rattle.std.proofs.lemmas.List.Sums.{sum_by-cons}
use Rattle.kt_money.specs.Sharing.{share_to, share_of, shares_after, share_out}
use Rattle.kt_money.specs.SharingLaws.{share_out-adds, share_to-le}
use Rattle.kt_lanes.specs.Lanes.{column, AreWide, AreLanes, IsLane}
use Rattle.kt_lanes.specs.LaneLaws.{All-first, All-more, column-at, column-sum-le, column-sum-more, lanes-are, lanes-more, lanes-none}
use Rattle.kt_lanes.specs.Shares.{weight_or_one, ArePaid, CanPay, CanShare, AreSharing, AreSharingBehind}
use Rattle.kt_lanes.specs.SideBySide.{AreBehind}
use Rattle.kt_lanes.specs.WeightLaws.{weight-few, weight-most, weight-same, weight-some}

-- ---- shares, one by one

-- there are as many as weights
shares-count : (total weights given : ℕ) (further : List ℕ) → length (shares_after total weights given further) ≡ length further
shares-count total weights given [] = refl
shares-count total weights given (w ∷ further) = ap suc (shares-count total weights (given + w) further)

-- the share in a place
share-at : (total weights given : ℕ) (further : List ℕ) (at : ℕ) → at < length further → slice_index (shares_after total weights given further) at ≡ share_of total weights (given + sum (take at further)) (slice_index further at)
share-at total weights given [] at below = absurd (omega arith)
share-at total weights given (w ∷ further) zero below = let e : given ≡ given + 0 = omega arith in ap (λ g. share_of total weights g w) e
share-at total weights given (w ∷ further) (suc at) below =
    let e : given + w + sum (take at further) ≡ given + sum (w ∷ take at further) = omega (arith, sum_by-cons (λ (n : ℕ). n) w (take at further)) in
    share-at total weights (given + w) further at (omega arith) ∙ ap (λ g. share_of total weights g (slice_index further at)) e

-- one more share
shares-more : (total : ℕ) (weights : List ℕ) (at : ℕ) → at < length weights → take at (share_out total weights) ++ share_of total (sum weights) (sum (take at weights)) (slice_index weights at) ∷ [] ≡ take (at + 1) (share_out total weights)
shares-more total weights at below =
    let long : length (share_out total weights) ≡ length weights = shares-count total (sum weights) 0 weights in
    let e : 0 + sum (take at weights) ≡ sum (take at weights) = omega arith in
    let here = share-at total (sum weights) 0 weights at below ∙ ap (λ g. share_of total (sum weights) g (slice_index weights at)) e in
    ap (λ s. take at (share_out total weights) ++ s ∷ []) (sym here) ∙ sym (take_more (share_out total weights) at 0 (omega (arith, below, long)))

-- an only weight has the whole
pub only-share : (total : ℕ) (weights : List ℕ) → length weights ≡ 1 → total ≤ sum weights → total ∷ [] ≡ share_out total weights
only-share total [] one few = absurd (omega arith)
only-share total (w ∷ v ∷ weights) one few = absurd (omega arith)
only-share total (w ∷ []) one few =
    let share = share_of total (sum (w ∷ [])) 0 w in
    let all : sum (share ∷ []) ≡ total = share_out-adds total (w ∷ []) (λ some. omega (arith, few)) in
    let same : total ≡ share = omega (arith, all, sum_by-cons (λ (n : ℕ). n) share []) in
    ap (λ n. n ∷ []) same

-- no weights are due nothing
pub none-due : (total weights : ℕ) → share_to total weights 0 ≡ 0
none-due total weights = let e : total * 0 ≡ 0 = omega arith in ap (λ n. n / weights) e ∙ zero-div weights

-- all weights together are due the whole
pub whole-due : (total weights : ℕ) → total ≤ weights → total ≡ share_to total weights weights
whole-due total zero few = let none : total ≡ 0 = omega arith in none ∙ sym (div-zero (total * zero))
whole-due total (suc n) few = sym (mul-div_cancel total {n = suc n} (omega arith))

-- ---- lanes

module _ (totals : List ℕ) (children : List (List ℕ)) where
  -- an only child has the whole
  whole-shares : length children ≡ 1 → ((k : ℕ) → k < length totals → slice_index totals k ≤ sum (column k children)) → (shares : List (List ℕ)) → AreLanes (length totals) 1 (λ k. slice_index totals k ∷ []) shares → AreLanes (length totals) (length children) (λ k. share_out (slice_index totals k) (column k children)) shares
  whole-shares one backed shares are =
      lanes-are (length totals) 1 (length children) (λ k. slice_index totals k ∷ []) (λ k. share_out (slice_index totals k) (column k children)) shares are (sym one)
      (λ k below. only-share (slice_index totals k) (column k children) (length-map children (λ (lane : List ℕ). slice_index lane k) ∙ one) (backed k below))

  -- nothing is shared out at first
  sharing-begins : AreSharing totals children 0 (replicate (length totals) 0) []
  sharing-begins = record {
    paid_is = record { wide = length-replicate (length totals) 0; each = λ k below. get_or-replicate (length totals) k 0 0 below ∙ sym (none-due (slice_index totals k) (sum (column k children))) };
    shares_are = lanes-none (length totals) (λ k. take 0 (share_out (slice_index totals k) (column k children))) (λ k below. refl);
  }

  -- all children have their shares
  sharing-ends : (at : ℕ) (paid : List ℕ) (shares : List (List ℕ)) → at ≡ length children → AreSharing totals children at paid shares → AreLanes (length totals) (length children) (λ k. share_out (slice_index totals k) (column k children)) shares
  sharing-ends at paid shares at_is so_far =
      lanes-are (length totals) at (length children) (λ k. take at (share_out (slice_index totals k) (column k children))) (λ k. share_out (slice_index totals k) (column k children)) shares so_far.shares_are at_is
      (λ k below. take_all at (share_out (slice_index totals k) (column k children)) (omega (arith, at_is, shares-count (slice_index totals k) (sum (column k children)) 0 (column k children), length-map children (λ (lane : List ℕ). slice_index lane k))))

  -- what the first children are paid in all at a sidx
  abbrev paid_at : ℕ → ℕ → ℕ
  paid_at at k = share_to (slice_index totals k) (sum (column k children)) (sum (column k (take at children)))

  -- one more child
  module _ (at : ℕ) (inside : at < length children) (paid : List ℕ) (shares : List (List ℕ)) (so_far : AreSharing totals children at paid shares) where
    more : (k : ℕ) → sum (column k (take (at + 1) children)) ≡ sum (column k (take at children)) + slice_index (slice_index_or children at []) k
    more k = column-sum-more k at children [] inside

    -- its part is not below what was paid
    more-enough : (k : ℕ) → k < length totals → slice_index paid k ≤ paid_at (at + 1) k
    more-enough k below =
        omega (arith, so_far.paid_is.each k below, share_to-le (slice_index totals k) (sum (column k children)) (sum (column k (take at children))) (sum (column k (take (at + 1) children))) (omega (arith, more k)))

    -- it has its share
    more-shares : (paid_now share : List ℕ) → IsLane (length totals) (paid_at (at + 1)) paid_now → IsLane (length totals) (λ k. paid_at (at + 1) k - slice_index paid k) share → AreSharing totals children (at + 1) paid_now (shares ++ share ∷ [])
    more-shares paid_now share paid_is share_is = record {
      paid_is = record { wide = paid_is.wide; each = λ k below. paid_is.each k below };
      shares_are =
          lanes-more (length totals) at (λ k. take at (share_out (slice_index totals k) (column k children))) (λ k. take (at + 1) (share_out (slice_index totals k) (column k children)))
          (λ k. share_of (slice_index totals k) (sum (column k children)) (sum (column k (take at children))) (slice_index (slice_index_or children at []) k)) shares (shares ++ share ∷ []) share so_far.shares_are
          (record {
            wide = share_is.wide;
            each = λ k below.
                share_is.each k below
                ∙ (ap (λ n. paid_at (at + 1) k - n) (so_far.paid_is.each k below)
                ∙ ap (λ n. share_to (slice_index totals k) (sum (column k children)) n - paid_at at k) (more k));
          }) refl
          (λ k below.
          let total = slice_index totals k in
          let all = sum (column k children) in
          ap (λ s. take at (share_out total (column k children)) ++ s ∷ [])
          (ap (λ n. share_of total all n (slice_index (slice_index_or children at []) k)) (ap sum (sym (take-map (λ (lane : List ℕ). slice_index lane k) at children)))
          ∙ ap (share_of total all (sum (take at (column k children)))) (sym (column-at k at children [] inside)))
          ∙ shares-more total (column k children) at (omega (arith, inside, length-map children (λ (lane : List ℕ). slice_index lane k))));
    }

  module _ (can : CanShare totals children) where
    module _ (weights : List ℕ) (weights_are : IsLane (length totals) (λ k. weight_or_one (sum (column k children))) weights) (at : ℕ) (inside : at < length children) (lane : List ℕ) (lane_is : lane ≡ slice_index_or children at lane) (upto : List ℕ)
        (upto_is : IsLane (length totals) (λ k. sum (column k (take at children))) upto) where
      next-sum : (k : ℕ) → k < length totals → slice_index upto k + slice_index lane k ≡ sum (column k (take (at + 1) children))
      next-sum k below = omega (arith, upto_is.each k below, column-sum-more k at children lane inside, ap (λ (one : List ℕ). slice_index one k) lane_is)

      -- the next child is counted among the first
      pub next-upto : (now : List ℕ) → IsLane (length totals) (λ k. slice_index upto k + slice_index lane k) now → IsLane (length totals) (λ k. sum (column k (take (at + 1) children))) now
      next-upto now now_is = record { wide = now_is.wide; each = λ k below. now_is.each k below ∙ next-sum k below }

      next-due : (k : ℕ) → k < length totals → share_to (slice_index totals k) (slice_index weights k) (slice_index upto k + slice_index lane k) ≡ paid_at (at + 1) k
      next-due k below =
          ap (λ n. share_to (slice_index totals k) n (slice_index upto k + slice_index lane k)) (weights_are.each k below)
          ∙ (weight-same (slice_index totals k) (sum (column k children)) (slice_index upto k + slice_index lane k) (can.backed k below)
          ∙ ap (share_to (slice_index totals k) (sum (column k children))) (next-sum k below))

      module _ (paid : List ℕ) (shares : List (List ℕ)) (so_far : AreSharing totals children at paid shares) where
        -- it can be paid
        pub can-pay : CanPay totals weights upto lane paid
        can-pay = record {
          weights_wide = weights_are.wide;
          upto_wide = upto_is.wide;
          lane_wide = ap (λ (one : List ℕ). length one) lane_is ∙ can.wide at lane inside;
          paid_wide = so_far.paid_is.wide;
          some = λ k below. omega (arith, weights_are.each k below, weight-some (sum (column k children)));
          most = λ k below. omega (arith, weights_are.each k below, weight-most (sum (column k children)), can.backed k below);
          few = λ k below. omega (arith, weights_are.each k below, weight-few (sum (column k children)) (can.few k below));
          within = λ k below. omega (arith, next-sum k below, column-sum-le k (at + 1) children, weight-most (sum (column k children)), weights_are.each k below);
          enough = λ k below. omega (arith, next-due k below, more-enough at inside paid shares so_far k below);
        }

        -- it has its share
        pub sharing-goes : (upto_now paid_now share : List ℕ) → ArePaid totals weights upto lane paid upto_now paid_now share → AreSharing totals children (at + 1) paid_now (shares ++ share ∷ [])
        sharing-goes upto_now paid_now share are =
            more-shares at inside paid shares so_far paid_now share (record { wide = are.paid_is.wide; each = λ k below. are.paid_is.each k below ∙ next-due k below })
            (record { wide = are.share_is.wide; each = λ k below. are.share_is.each k below ∙ ap (λ n. n - slice_index paid k) (next-due k below) })

    -- the last child has what is left of the totals
    module _ (at : ℕ) (last : at + 1 ≡ length children) (paid : List ℕ) (shares : List (List ℕ)) (so_far : AreSharing totals children at paid shares) where
      whole-part : IsLane (length totals) (paid_at (at + 1)) totals
      whole-part = record {
        wide = refl;
        each = λ k below.
            whole-due (slice_index totals k) (sum (column k children)) (can.backed k below)
            ∙ ap (λ lanes. share_to (slice_index totals k) (sum (column k children)) (sum (column k lanes))) (sym (take_all (at + 1) children (omega (arith, last))));
      }

      pub last-enough : (k : ℕ) → k < length paid → slice_index paid k ≤ slice_index totals k
      last-enough k below =
          let inside : k < length totals = omega (arith, below, so_far.paid_is.wide) in
          omega (arith, more-enough at (omega (arith, last)) paid shares so_far k inside, whole-part.each k inside)

      pub sharing-last : (share : List ℕ) → IsLane (length paid) (λ k. slice_index totals k - slice_index paid k) share → AreLanes (length totals) (length children) (λ k. share_out (slice_index totals k) (column k children)) (shares ++ share ∷ [])
      sharing-last share share_is =
          sharing-ends (at + 1) totals (shares ++ share ∷ []) last
          (more-shares at (omega (arith, last)) paid shares so_far totals share whole-part
          (record {
            wide = share_is.wide ∙ so_far.paid_is.wide;
            each = λ k below. share_is.each k (subst (λ n. k < n) (sym so_far.paid_is.wide) below) ∙ ap (λ n. n - slice_index paid k) (whole-part.each k below);
          }))

  -- ---- shares behind other lanes

  -- an only child has the whole
  pub whole-behind : (before now : List (List ℕ)) → length children ≡ 1 → ((k : ℕ) → k < length totals → slice_index totals k ≤ sum (column k children)) → now ≡ before ++ totals ∷ [] → AreBehind (length totals) 1 (λ k. share_out (slice_index totals k) (column k children)) before now
  whole-behind before now one backed now_is = record {
    more = totals ∷ [];
    more_are =
        subst (λ n. AreLanes (length totals) n (λ k. share_out (slice_index totals k) (column k children)) (totals ∷ [])) one
        (whole-shares one backed (totals ∷ []) (record {
          count_is = refl;
          wide = All-first (λ (lane : List ℕ). length lane ≡ length totals) totals [] refl (λ k d below. absurd (omega arith));
          each = λ k below. refl;
        }));
    now_is = now_is;
  }

  -- no child has its share yet
  pub behind-begins : (before : List (List ℕ)) (paid : List ℕ) → AreWide (length totals) before → paid ≡ replicate (length totals) 0 → AreSharingBehind totals children 0 paid before before
  behind-begins before paid wide paid_is = record {
    shares = [];
    sharing = subst (λ (lane : List ℕ). AreSharing totals children 0 lane []) (sym paid_is) sharing-begins;
    now_is = sym (append-nil before);
    wide = wide;
  }

  -- none is counted yet
  pub none-counted : (upto : List ℕ) → upto ≡ replicate (length totals) 0 → IsLane (length totals) (λ k. sum (column k (take 0 children))) upto
  none-counted upto upto_is = record {
    wide = ap (λ (lane : List ℕ). length lane) upto_is ∙ length-replicate (length totals) 0;
    each = λ k below. ap (λ (lane : List ℕ). slice_index lane k) upto_is ∙ get_or-replicate (length totals) k 0 0 below;
  }

  module _ (at : ℕ) (paid : List ℕ) (before now : List (List ℕ)) (so_far : AreSharingBehind totals children at paid before now) (share : List ℕ) (more : List (List ℕ)) (more_is : more ≡ now ++ share ∷ []) where
    stands : more ≡ before ++ (so_far.shares ++ share ∷ [])
    stands = more_is ∙ (ap (λ lanes. lanes ++ share ∷ []) so_far.now_is ∙ append_assoc before so_far.shares (share ∷ []))

    -- one more child has its share
    pub behind-goes : (paid_now : List ℕ) → length share ≡ length totals → AreSharing totals children (at + 1) paid_now (so_far.shares ++ share ∷ []) → AreSharingBehind totals children (at + 1) paid_now before more
    behind-goes paid_now fits sharing = record {
      shares = so_far.shares ++ share ∷ [];
      sharing = sharing;
      now_is = stands;
      wide = subst (AreWide (length totals)) (sym more_is) (All-more (λ (lane : List ℕ). length lane ≡ length totals) now share so_far.wide fits);
    }

    -- the last child too
    pub behind-ends : (count : ℕ) → length children ≡ count → AreLanes (length totals) (length children) (λ k. share_out (slice_index totals k) (column k children)) (so_far.shares ++ share ∷ []) → AreBehind (length totals) count (λ k. share_out (slice_index totals k) (column k children)) before more
    behind-ends count many are = record {
      more = so_far.shares ++ share ∷ [];
      more_are = subst (λ n. AreLanes (length totals) n (λ k. share_out (slice_index totals k) (column k children)) (so_far.shares ++ share ∷ [])) many are;
      now_is = stands;
    }
