-- Laws of lanes: one more lane, one more amount.
-- The rule: docs/CALCULATION.md, "Share-out".
use Rattle.std.specs.Prelude.{◌≡◌, ◌≢◌, ◌⊎◌, ℕ, zero, suc, ◌+◌, ◌<◌, ◌≤◌, List, [], ◌∷◌, ◌++◌, All, length, take, drop, slice_index, slice_index_or}
use Rattle.std.specs.List.{sum}
use Rattle.std.proofs.Common.{inl, inr, slice_set, refl, sym, ap, subst, ◌∙◌, arith}
use Rattle.std.proofs.lemmas.Bool.{cases_eq}
use Rattle.std.proofs.lemmas.List.{get_or-set_same, get_or-set_other, length-set, length-drop, length-take-le, map-append, map-set, take-take, take_all, take_more, take-map, drop-map, get_or-drop, get_or-map, get_or-take}
use Rattle.std.proofs.lemmas.List.Sums.{sum_by-append, sum_by-cons, sum_by-take-le}
use Rattle.kt_lanes.specs.Lanes.{column, AreWide, AreLanes, IsLane}

-- ---- lists of lanes

-- what holds of each of a list and of one more holds of all
pub All-more : {X : Type 0} (P : X → Type 0) (xs : List X) (x : X) → All P xs → P x → All P (xs ++ x ∷ [])
All-more P [] x all here zero d below = here
All-more P [] x all here (suc k) d below = absurd (omega arith)
All-more P (y ∷ xs) x all here zero d below = all zero d (omega arith)
All-more P (y ∷ xs) x all here (suc k) d below = All-more P xs x (λ j e inside. all (suc j) e (omega arith)) here k d (omega arith)

-- and so it does of one before them
pub All-first : {X : Type 0} (P : X → Type 0) (x : X) (xs : List X) → P x → All P xs → All P (x ∷ xs)
All-first P x xs here all zero d below = here
All-first P x xs here all (suc k) d below = all k d (omega arith)

pub length-more : {X : Type 0} (xs : List X) (x : X) → length (xs ++ x ∷ []) ≡ length xs + 1
length-more [] x = refl
length-more (y ∷ xs) x = omega (arith, length-more xs x)

-- no lanes
pub lanes-none : (width : ℕ) (amounts : ℕ → List ℕ) → ((k : ℕ) → k < width → [] ≡ amounts k) → AreLanes width 0 amounts []
lanes-none width amounts none = record { count_is = refl; wide = λ k d below. absurd (omega arith); each = none }

-- one more lane
pub lanes-more : (width count : ℕ) (before now : ℕ → List ℕ) (amount : ℕ → ℕ) (lanes more : List (List ℕ)) (lane : List ℕ) → AreLanes width count before lanes → IsLane width amount lane → more ≡ lanes ++ lane ∷ [] → ((k : ℕ) → k < width → before k ++ amount k ∷ [] ≡ now k) → AreLanes width (count + 1) now more
lanes-more width count before now amount lanes more lane are is more_is same = record {
  count_is = omega (arith, ap length more_is, length-more lanes lane, are.count_is);
  wide = subst (AreWide width) (sym more_is) (All-more (λ (one : List ℕ). length one ≡ width) lanes lane are.wide is.wide);
  each = λ k below.
      ap (column k) more_is
      ∙ (map-append (λ (one : List ℕ). slice_index one k) lanes (lane ∷ [])
      ∙ (ap (λ front. front ++ slice_index lane k ∷ []) (are.each k below)
      ∙ (ap (λ n. before k ++ n ∷ []) (is.each k below) ∙ same k below)));
}

-- both are wide
pub wide-both : (width : ℕ) (lanes more : List (List ℕ)) → AreWide width lanes → AreWide width more → AreWide width (lanes ++ more)
wide-both width [] more one other = other
wide-both width (lane ∷ lanes) more one other =
    All-first (λ (each : List ℕ). length each ≡ width) lane (lanes ++ more) (one zero lane (omega arith)) (wide-both width lanes more (λ k d below. one (suc k) d (omega arith)) other)

-- the same amounts otherwise
pub lanes-are : (width count other : ℕ) (before now : ℕ → List ℕ) (lanes : List (List ℕ)) → AreLanes width count before lanes → count ≡ other → ((k : ℕ) → k < width → before k ≡ now k) → AreLanes width other now lanes
lanes-are width count other before now lanes are counts same = record { count_is = are.count_is ∙ counts; wide = are.wide; each = λ k below. are.each k below ∙ same k below }

-- the amount of a lane in a place
pub column-at : (k place : ℕ) (lanes : List (List ℕ)) (d : List ℕ) → place < length lanes → slice_index (column k lanes) place ≡ slice_index (slice_index_or lanes place d) k
column-at k place lanes d below = get_or-map (λ (one : List ℕ). slice_index one k) lanes place d 0 below

-- those of children
pub column-part : (k start width : ℕ) (lanes : List (List ℕ)) → column k (take width (drop start lanes)) ≡ take width (drop start (column k lanes))
column-part k start width lanes =
    sym (ap (take width) (drop-map (λ (one : List ℕ). slice_index one k) start lanes) ∙ take-map (λ (one : List ℕ). slice_index one k) width (drop start lanes))

-- a part of lanes is as wide
pub wide-part : (width : ℕ) (lanes : List (List ℕ)) → AreWide width lanes → (start count : ℕ) → AreWide width (take count (drop start lanes))
wide-part width lanes wide start count = taken count (drop start lanes) (dropped start lanes wide)
  where
    dropped : (n : ℕ) (xs : List (List ℕ)) → AreWide width xs → AreWide width (drop n xs)
    dropped zero xs all = all
    dropped (suc n) [] all = all
    dropped (suc n) (x ∷ xs) all = dropped n xs (λ k d below. all (suc k) d (omega arith))

    first : (n : ℕ) (x : List ℕ) (xs : List (List ℕ)) → length x ≡ width → AreWide width (take n xs) → AreWide width (x ∷ take n xs)
    first n x xs here rest zero d below = here
    first n x xs here rest (suc k) d below = rest k d (omega arith)

    taken : (n : ℕ) (xs : List (List ℕ)) → AreWide width xs → AreWide width (take n xs)
    taken zero xs all = λ k d below. absurd (omega arith)
    taken (suc n) [] all = all
    taken (suc n) (x ∷ xs) all = first n x xs (all zero x (omega arith)) (taken n xs (λ k d below. all (suc k) d (omega arith)))

-- a lane among those side by side
pub part-at : {X : Type 0} (start count : ℕ) (xs : List X) (at : ℕ) (d : X) → at < count → slice_index_or (take count (drop start xs)) at d ≡ slice_index_or xs (start + at) d
part-at start count xs at d below = get_or-take count (drop start xs) at d below ∙ get_or-drop start xs at d

-- how many these are
pub part-count : {X : Type 0} (start count : ℕ) (xs : List X) → start + count ≤ length xs → length (take count (drop start xs)) ≡ count
part-count start count xs fits = length-take-le count (drop start xs) (omega (arith, fits, length-drop start xs))

-- all from the first on
pub part-all : {X : Type 0} (xs : List X) → take (length xs) (drop 0 xs) ≡ xs
part-all xs = take_all (length xs) xs (omega arith)

-- the sum of one more lane
pub column-sum-more : (k i : ℕ) (lanes : List (List ℕ)) (d : List ℕ) → i < length lanes → sum (column k (take (i + 1) lanes)) ≡ sum (column k (take i lanes)) + slice_index (slice_index_or lanes i d) k
column-sum-more k i lanes d below =
    let f : List ℕ → ℕ = λ one. slice_index one k in
    let last = slice_index_or lanes i d in
    ap (λ ls. sum (column k ls)) (take_more lanes i d below)
    ∙ (ap sum (map-append f (take i lanes) (last ∷ []))
    ∙ (sum_by-append (λ (n : ℕ). n) (column k (take i lanes)) (f last ∷ [])
    ∙ ap (λ n. sum (column k (take i lanes)) + n) (one (f last))))
  where
    one : (n : ℕ) → sum (n ∷ []) ≡ n
    one n = omega (arith, sum_by-cons (λ (m : ℕ). m) n [])

pub column-sum-le : (k i : ℕ) (lanes : List (List ℕ)) → sum (column k (take i lanes)) ≤ sum (column k lanes)
column-sum-le k i lanes =
    subst (λ ns. sum ns ≤ sum (column k lanes)) (take-map (λ (one : List ℕ). slice_index one k) i lanes) (sum_by-take-le (λ (n : ℕ). n) (column k lanes) i)

-- ---- one lane in the place of another

module _ (width place : ℕ) (lanes : List (List ℕ)) (wide : AreWide width lanes) (below : place < length lanes) (lane : List ℕ) where
  pub set-wide : length lane ≡ width → AreWide width (slice_set lanes place lane)
  set-wide long = λ j d inside. by j d inside (cases_eq j place)
    where
      by : (j : ℕ) (d : List ℕ) → j < length (slice_set lanes place lane) → (j ≡ place) ⊎ (j ≢ place) → length (slice_index_or (slice_set lanes place lane) j d) ≡ width
      by j d inside (inl same) = ap (λ n. length (slice_index_or (slice_set lanes place lane) n d)) same ∙ (ap (λ (one : List ℕ). length one) (get_or-set_same lanes place lane d below) ∙ long)
      by j d inside (inr differ) = ap (λ (one : List ℕ). length one) (get_or-set_other lanes place j lane d differ) ∙ wide j d (omega (arith, inside, length-set lanes place lane))

  pub set-column : (k : ℕ) → column k (slice_set lanes place lane) ≡ slice_set (column k lanes) place (slice_index lane k)
  set-column k = map-set (λ (one : List ℕ). slice_index one k) lanes place lane

-- ---- sums of lanes side by side

module _ (lanes : List (List ℕ)) (start : ℕ) where
  -- what so many of them have at a sidx
  abbrev pub sum_at : ℕ → ℕ → ℕ
  sum_at count k = sum (column k (take count (drop start lanes)))

  -- fewer have no more
  pub sum-le : (some count : ℕ) → some ≤ count → (k : ℕ) → sum_at some k ≤ sum_at count k
  sum-le some count within k =
      subst (λ (some_of : List (List ℕ)). sum (column k some_of) ≤ sum_at count k) (take-take some count (drop start lanes) within) (column-sum-le k some (take count (drop start lanes)))

  -- one lane more
  pub sum-next : (count at : ℕ) → at ≡ start + count → (next : ℕ) → next ≡ count + 1 → at < length lanes → (lane : List ℕ) → lane ≡ slice_index_or lanes at lane → (k : ℕ) → sum_at next k ≡ sum_at count k + slice_index lane k
  sum-next count at at_is next next_is within lane lane_is k =
      let here : slice_index_or (drop start lanes) count lane ≡ lane = get_or-drop start lanes count lane ∙ (ap (λ n. slice_index_or lanes n lane) (sym at_is) ∙ sym lane_is) in
      ap (λ n. sum_at n k) next_is
      ∙ (column-sum-more k count (drop start lanes) lane (omega (arith, within, at_is, length-drop start lanes)) ∙ ap (λ (one : List ℕ). sum_at count k + slice_index one k) here)

  module _ (count at : ℕ) (at_is : at ≡ start + count) (end : ℕ) where
    -- two more
    pub sum-two : end ≡ count + 2 → start + end ≤ length lanes → (first second : List ℕ) → first ≡ slice_index_or lanes at first → second ≡ slice_index_or lanes (at + 1) second → (k : ℕ) → sum_at end k ≡ sum_at count k + (slice_index first k + slice_index second k)
    sum-two end_is within first second first_is second_is k =
        omega (
          arith,
          sum-next count at at_is (count + 1) refl (omega (arith, at_is, end_is, within)) first first_is k,
          sum-next (count + 1) (at + 1) (omega (arith, at_is)) end (omega (arith, end_is)) (omega (arith, at_is, end_is, within)) second second_is k,
        )

module _ (lanes : List (List ℕ)) (start count at : ℕ) (at_is : at ≡ start + count) (end : ℕ) where
  -- three more
  pub sum-three : end ≡ count + 3 → start + end ≤ length lanes → (first second : List ℕ) → first ≡ slice_index_or lanes at first → second ≡ slice_index_or lanes (at + 1) second → (third : List ℕ) → third ≡ slice_index_or lanes (at + 2) third
      → (k : ℕ) → sum_at lanes start end k ≡ sum_at lanes start count k + (slice_index first k + slice_index second k + slice_index third k)
  sum-three end_is within first second first_is second_is third third_is k =
      omega (
        arith,
        sum-two lanes start count at at_is (count + 2) refl (omega (arith, end_is, within)) first second first_is second_is k,
        sum-next lanes start (count + 2) (at + 2) (omega (arith, at_is)) end (omega (arith, end_is)) (omega (arith, at_is, end_is, within)) third third_is k,
      )

module _ (lanes : List (List ℕ)) (start count at : ℕ) (at_is : at ≡ start + count) (end : ℕ) where
  -- four more
  pub sum-four : end ≡ count + 4 → start + end ≤ length lanes → (first second : List ℕ) → first ≡ slice_index_or lanes at first → second ≡ slice_index_or lanes (at + 1) second → (third : List ℕ) → third ≡ slice_index_or lanes (at + 2) third
      → (fourth : List ℕ) → fourth ≡ slice_index_or lanes (at + 3) fourth → (k : ℕ) → sum_at lanes start end k ≡ sum_at lanes start count k + (slice_index first k + slice_index second k + slice_index third k + slice_index fourth k)
  sum-four end_is within first second first_is second_is third third_is fourth fourth_is k =
      omega (
        arith,
        sum-three lanes start count at at_is (count + 3) refl (omega (arith, end_is, within)) first second first_is second_is third third_is k,
        sum-next lanes start (count + 3) (at + 3) (omega (arith, at_is)) end (omega (arith, end_is)) (omega (arith, at_is, end_is, within)) fourth fourth_is k,
      )

-- ---- one lane

-- what holds of the numbers below one and of this holds of those below the next
pub below-more : (P : ℕ → Type 0) (k : ℕ) → ((j : ℕ) → j < k → P j) → P k → (j : ℕ) → j < k + 1 → P j
below-more P k earlier here j below = by (cases_eq j k)
  where
    by : (j ≡ k) ⊎ (j ≢ k) → P j
    by (inl same) = subst P (sym same) here
    by (inr differ) = earlier j (omega (arith, below, differ))

-- a lane that is written from its start on: what was written, and what is left
pub record IsWritten (width k : ℕ) (new old : ℕ → ℕ) (lane : List ℕ) : Type 0 where
  pub wide : length lane ≡ width
  pub done : (j : ℕ) → j < k → slice_index lane j ≡ new j
  pub left : (j : ℕ) → k ≤ j → j < width → slice_index lane j ≡ old j

pub written-start : (width : ℕ) (new old : ℕ → ℕ) (lane : List ℕ) → length lane ≡ width → ((j : ℕ) → j < width → slice_index lane j ≡ old j) → IsWritten width 0 new old lane
written-start width new old lane wide same = record { wide = wide; done = λ j below. absurd (omega arith); left = λ j above below. same j below }

pub written-more : (width k : ℕ) (new old : ℕ → ℕ) (lane : List ℕ) (amount : ℕ) → k < width → IsWritten width k new old lane → amount ≡ new k → IsWritten width (k + 1) new old (slice_set lane k amount)
written-more width k new old lane amount below so_far amount_is = record {
  wide = length-set lane k amount ∙ so_far.wide;
  done = λ j inside. by j inside (cases_eq j k);
  left = λ j above inside. get_or-set_other lane k j amount 0 (apart j above) ∙ so_far.left j (omega arith) inside;
}
  where
    apart : (j : ℕ) → k + 1 ≤ j → j ≢ k
    apart j above same = absurd (omega arith)

    by : (j : ℕ) → j < k + 1 → (j ≡ k) ⊎ (j ≢ k) → slice_index (slice_set lane k amount) j ≡ new j
    by j inside (inl same) = ap (slice_index (slice_set lane k amount)) same ∙ (get_or-set_same lane k amount 0 (omega (arith, so_far.wide)) ∙ (amount_is ∙ ap new (sym same)))
    by j inside (inr differ) = get_or-set_other lane k j amount 0 differ ∙ so_far.done j (less j inside differ)
      where
        less : (j : ℕ) → j < k + 1 → j ≢ k → j < k
        less j inside differ = elim (cases_eq j k) [
          | inl same ↦ absurd (differ same)
          | inr _ ↦ omega (arith, differ)
        ]

pub written-end : (width : ℕ) (new old : ℕ → ℕ) (lane : List ℕ) → IsWritten width width new old lane → IsLane width new lane
written-end width new old lane so_far = record { wide = so_far.wide; each = so_far.done }
