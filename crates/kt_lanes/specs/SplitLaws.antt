-- Laws of totals that are shared out over the lanes of two children.
-- The rule: docs/CALCULATION.md, "Share-out".
use Rattle.std.specs.Prelude.{◌≡◌, ℕ, zero, suc, ◌+◌, ◌-◌, ◌*◌, ◌<◌, ◌≤◌, ◌^◌, List, [], ◌∷◌, ◌++◌, length, drop, take, slice_index, slice_index_or}
use Rattle.std.specs.List.{sum}
use Rattle.std.proofs.Common.{append_assoc, slice_set, refl, sym, ap, subst, ◌∙◌, arith}
use Rattle.std.proofs.Math.Nat.{div-zero, mul-div_cancel}
use Rattle.std.proofs.lemmas.List.{get_or-drop, length-drop}
use Rattle.std.proofs.lemmas.List.Sums.{sum_by-cons}
use Rattle.kt_money.specs.Sharing.{share_to, share_of, share_out}
use Rattle.kt_money.specs.SharingLaws.{share_to-le}
use Rattle.kt_lanes.specs.Lanes.{column, AreWide}
use Rattle.kt_lanes.specs.LaneLaws.{IsWritten, below-more, All-first, written-more, written-start}
use Rattle.kt_lanes.specs.Shares.{AreSplit, CanShare, CanSplit}
use Rattle.kt_lanes.specs.SharesLaws.{none-due, whole-due}
use Rattle.kt_lanes.specs.SideBySide.{AreBehind}

-- ---- two weights

-- a part is not above the total
pub part-most : (total weights upto : ℕ) → upto ≤ weights → share_to total weights upto ≤ total
part-most total zero upto within = omega (arith, div-zero (total * upto))
part-most total (suc n) upto within = subst (λ (most : ℕ). share_to total (suc n) upto ≤ most) (mul-div_cancel total {n = suc n} (omega arith)) (share_to-le total (suc n) upto (suc n) within)

two-sum : (a b : ℕ) → sum (a ∷ b ∷ []) ≡ a + b
two-sum a b = omega (arith, sum_by-cons (λ (n : ℕ). n) a (b ∷ []), sum_by-cons (λ (n : ℕ). n) b [])

-- the first has its part, and the second what is left
two-shares : (total a b : ℕ) → total ≤ a + b → share_to total (a + b) a ∷ (total - share_to total (a + b) a) ∷ [] ≡ share_out total (a ∷ b ∷ [])
two-shares total a b few =
    let all = sum (a ∷ b ∷ []) in
    let part = share_to total (a + b) a in
    let both : all ≡ a + b = two-sum a b in
    let start : 0 + a ≡ a = omega arith in
    let end : 0 + a + b ≡ all = omega (arith, both) in
    let up : share_to total all (0 + a) ≡ part = ap (share_to total all) start ∙ ap (λ n. share_to total n a) both in
    let whole : share_to total all (0 + a + b) ≡ total = ap (share_to total all) end ∙ sym (whole-due total all (omega (arith, both, few))) in
    let first : share_of total all 0 a ≡ part = ap (λ n. n - share_to total all 0) up ∙ (ap (λ n. part - n) (none-due total all) ∙ without part) in
    let second : share_of total all (0 + a) b ≡ total - part = ap (λ n. n - share_to total all (0 + a)) whole ∙ ap (λ n. total - n) up in
    sym (ap (λ n. n ∷ share_of total all (0 + a) b ∷ []) first ∙ ap (λ n. part ∷ n ∷ []) second)
  where
    without : (n : ℕ) → n - 0 ≡ n
    without n = omega arith

-- ---- sidx by sidx

module _ (totals first second : List ℕ) where
  -- the part of the first child at a sidx
  abbrev pub part_at : ℕ → ℕ
  part_at k = share_to (slice_index totals k) (slice_index first k + slice_index second k) (slice_index first k)

  -- it is not above the total
  part-enough : (k part : ℕ) → part ≡ part_at k → part ≤ slice_index totals k
  part-enough k part part_is = subst (λ (n : ℕ). n ≤ slice_index totals k) (sym part_is) (part-most (slice_index totals k) (slice_index first k + slice_index second k) (slice_index first k) (omega arith))

  -- shares are written from the first sidx on
  pub record IsSplitTo (k : ℕ) (parts_before rests_before parts rests : List ℕ) : Type 0 where
    pub parts_to : IsWritten (length totals) k part_at (slice_index parts_before) parts
    pub rests_to : IsWritten (length totals) k (λ j. slice_index totals j - part_at j) (slice_index rests_before) rests

  pub split-start : (parts rests : List ℕ) → length parts ≡ length totals → length rests ≡ length totals → IsSplitTo 0 parts rests parts rests
  split-start parts rests parts_wide rests_wide = record {
    parts_to = written-start (length totals) part_at (slice_index parts) parts parts_wide (λ j below. refl);
    rests_to = written-start (length totals) (λ j. slice_index totals j - part_at j) (slice_index rests) rests rests_wide (λ j below. refl);
  }

  -- one more share of each
  pub split-more : (k : ℕ) (parts_before rests_before parts rests : List ℕ) (part rest : ℕ) → k < length totals → IsSplitTo k parts_before rests_before parts rests → part ≡ part_at k → (part ≤ slice_index totals k → rest ≡ slice_index totals k - part) → IsSplitTo (k + 1) parts_before rests_before (slice_set parts k part) (slice_set rests k rest)
  split-more k parts_before rests_before parts rests part rest below so_far part_is rest_is = record {
    parts_to = written-more (length totals) k part_at (slice_index parts_before) parts part below so_far.parts_to part_is;
    rests_to = written-more (length totals) k (λ j. slice_index totals j - part_at j) (slice_index rests_before) rests rest below so_far.rests_to (rest_is (part-enough k part part_is) ∙ ap (λ n. slice_index totals k - n) part_is);
  }

  pub split-end : (k : ℕ) (parts_before rests_before parts rests : List ℕ) → length totals ≤ k → IsSplitTo k parts_before rests_before parts rests → AreSplit totals first second parts rests
  split-end k parts_before rests_before parts rests past so_far = record {
    parts_are = record { wide = so_far.parts_to.wide; each = λ j below. so_far.parts_to.done j (omega (arith, below, past)) };
    rests_are = record { wide = so_far.rests_to.wide; each = λ j below. so_far.rests_to.done j (omega (arith, below, past)) };
  }

  -- parts are tested, and what is left is written, from the first sidx on
  pub record IsTestedTo (k : ℕ) (rests_before parts rests : List ℕ) : Type 0 where
    pub parts_are : (j : ℕ) → j < k → slice_index parts j ≡ part_at j
    pub rests_to : IsWritten (length totals) k (λ j. slice_index totals j - part_at j) (slice_index rests_before) rests

  pub tested-start : (parts rests : List ℕ) → length rests ≡ length totals → IsTestedTo 0 rests parts rests
  tested-start parts rests wide = record {
    parts_are = λ j below. absurd (omega arith);
    rests_to = written-start (length totals) (λ j. slice_index totals j - part_at j) (slice_index rests) rests wide (λ j below. refl);
  }

  -- one more part is tested
  pub tested-more : (k : ℕ) (rests_before parts rests : List ℕ) (rest : ℕ) → k < length totals → IsTestedTo k rests_before parts rests → slice_index parts k ≡ part_at k → (slice_index parts k ≤ slice_index totals k → rest ≡ slice_index totals k - slice_index parts k) → IsTestedTo (k + 1) rests_before parts (slice_set rests k rest)
  tested-more k rests_before parts rests rest below so_far part_is rest_is = record {
    parts_are = below-more (λ j. slice_index parts j ≡ part_at j) k so_far.parts_are part_is;
    rests_to = written-more (length totals) k (λ j. slice_index totals j - part_at j) (slice_index rests_before) rests rest below so_far.rests_to (rest_is (part-enough k (slice_index parts k) part_is) ∙ ap (λ n. slice_index totals k - n) part_is);
  }

  pub tested-end : (k : ℕ) (rests_before parts rests : List ℕ) → length totals ≤ k → length parts ≡ length totals → IsTestedTo k rests_before parts rests → AreSplit totals first second parts rests
  tested-end k rests_before parts rests past wide so_far = record {
    parts_are = record { wide = wide; each = λ j below. so_far.parts_are j (omega (arith, below, past)) };
    rests_are = record { wide = so_far.rests_to.wide; each = λ j below. so_far.rests_to.done j (omega (arith, below, past)) };
  }

-- ---- the lanes of two children

-- they stand side by side
pub two-lanes : (lanes : List (List ℕ)) (start : ℕ) (first second : List ℕ) → start + 2 ≤ length lanes → first ≡ slice_index_or lanes start first → second ≡ slice_index_or lanes (start + 1) second → take 2 (drop start lanes) ≡ first ∷ second ∷ []
two-lanes lanes start first second within first_is second_is =
    let e : start + 0 ≡ start = omega arith in
    both (drop start lanes) (omega (arith, within, length-drop start lanes)) (get_or-drop start lanes 0 first ∙ (ap (λ n. slice_index_or lanes n first) e ∙ sym first_is)) (get_or-drop start lanes 1 second ∙ sym second_is)
  where
    both : (rest : List (List ℕ)) → 2 ≤ length rest → slice_index_or rest 0 first ≡ first → slice_index_or rest 1 second ≡ second → take 2 rest ≡ first ∷ second ∷ []
    both [] enough one other = absurd (omega (arith, enough))
    both (x ∷ []) enough one other = absurd (omega (arith, enough))
    both (x ∷ y ∷ more) enough one other = ap (λ (lane : List ℕ). lane ∷ y ∷ []) one ∙ ap (λ (lane : List ℕ). first ∷ lane ∷ []) other

module _ (totals first second : List ℕ) (children : List (List ℕ)) (same : children ≡ first ∷ second ∷ []) where
  children-sum : (k : ℕ) → sum (column k children) ≡ slice_index first k + slice_index second k
  children-sum k = ap (λ (lanes : List (List ℕ)). sum (column k lanes)) same ∙ two-sum (slice_index first k) (slice_index second k)

  -- what can be shared out over the children can be over two lanes
  pub can-split : CanShare totals children → CanSplit totals first second
  can-split can =
      let wide : AreWide (length totals) (first ∷ second ∷ []) = subst (AreWide (length totals)) same can.wide in
      record {
        first_wide = wide 0 [] (omega arith);
        second_wide = wide 1 [] (omega arith);
        few = λ k below. subst (λ (n : ℕ). n ≤ 10 ^ 16) (children-sum k) (can.few k below);
        backed = λ k below. subst (λ (n : ℕ). slice_index totals k ≤ n) (children-sum k) (can.backed k below);
      }

  -- the shares of both stand behind other lanes
  pub split-behind : CanSplit totals first second → (parts rests : List ℕ) → AreSplit totals first second parts rests → (before between now : List (List ℕ)) → between ≡ before ++ parts ∷ [] → now ≡ between ++ rests ∷ [] → AreBehind (length totals) 2 (λ k. share_out (slice_index totals k) (column k children)) before now
  split-behind can parts rests are before between now between_is now_is = record {
    more = parts ∷ rests ∷ [];
    more_are = record {
      count_is = refl;
      wide =
          All-first (λ (lane : List ℕ). length lane ≡ length totals) parts (rests ∷ []) are.parts_are.wide
          (All-first (λ (lane : List ℕ). length lane ≡ length totals) rests [] are.rests_are.wide (λ k d below. absurd (omega arith)));
      each = λ k below.
          ap (λ n. n ∷ slice_index rests k ∷ []) (are.parts_are.each k below)
          ∙ (ap (λ n. part_at totals first second k ∷ n ∷ []) (are.rests_are.each k below)
          ∙ (two-shares (slice_index totals k) (slice_index first k) (slice_index second k) (can.backed k below)
          ∙ ap (λ (lanes : List (List ℕ)). share_out (slice_index totals k) (column k lanes)) (sym same)));
    };
    now_is = now_is ∙ (ap (λ lanes. lanes ++ rests ∷ []) between_is ∙ append_assoc before (parts ∷ []) (rests ∷ []));
  }
