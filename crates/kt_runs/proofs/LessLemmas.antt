-- Lanes from which amounts are taken, and the records that are left of them.
use Rattle.std.proofs.Common.{◌≡◌, ◌≢◌, ◌⊎◌, ℕ, zero, suc, ◌+◌, ◌-◌, ◌<◌, ◌≤◌, List, [], ◌∷◌, length, map, slice_index, slice_index_or, slice_set, inl, inr, refl, sym, ap, subst, ◌∙◌, arith, Option, Some, None}
use Rattle.std.specs.List.{cons_option, filter_map, zip}
use Rattle.std.proofs.lemmas.Bool.{cases_eq}
use Rattle.std.proofs.lemmas.List.{get_or-set_same, get_or-set_other, length-set, set-get_or}
use Rattle.std.proofs.lemmas.List.Elements.{All-set}
use Rattle.kt_runs.specs.RunLosses.{loss_of}
use Rattle.kt_runs.specs.Sidx.{sidx_at}
use Rattle.kt_lanes.specs.Lanes.{AreWide, IsLane}
use Rattle.kt_lanes.specs.LaneLaws.{column-at}
use Rattle.kt_lanes.specs.SideBySide.{IsLessened}
use Rattle.kt_runs.specs.Less.{amount_in, left_record, record_less, records_less}
use Rattle.kt_runs.specs.LossLanes.{AreApart, HaveLanes, head_record, lane_of, lane_records, no_head, place_at}
use Rattle.kt_runs.specs.LossLanesLaws.{with-row}
use Rattle.kt_runs.specs.RowLaws.{pairs-agree}
use Rattle.kt_runs.specs.Records.{record_with}
use Rattle.kt_runs.specs.LaneRows.{pairs_by_row, pairs_with, row_place}
use Rattle.kt_runs.specs.declared.heads.LossHead.{LossHead}

-- what rises from each to the next rises from each to all behind it
rises-far : (f : ℕ → ℕ) (n : ℕ) → ((k : ℕ) → k + 1 < n → f k < f (k + 1)) → (i j : ℕ) → i < j → j < n → f i < f j
rises-far f n near i zero below inside = absurd (omega (arith, below))
rises-far f n near i (suc j) below inside = by (λ less. rises-far f n near i j less (omega (arith, inside))) (cases_eq i j)
  where
    last : f j < f (suc j)
    last = let e : j + 1 ≡ suc j = omega arith in subst (λ m. f j < f m) e (near j (omega (arith, inside)))

    by : (i < j → f i < f j) → (i ≡ j) ⊎ (i ≢ j) → f i < f (suc j)
    by rest (inl same) = subst (λ m. f m < f (suc j)) (sym same) last
    by rest (inr differ) = omega (arith, rest (omega (arith, below, differ)), last)

-- what agrees for each of two lists makes the same
zip-agree : {X Y P Z : Type 0} (f : X → Option Z) (h : X → Y) (g : Y → P → Option Z) (x0 : X) (p0 : P) (xs : List X) (ps : List P) → length ps ≡ length xs → ((k : ℕ) → k < length xs → f (slice_index_or xs k x0) ≡ g (h (slice_index_or xs k x0)) (slice_index_or ps k p0)) → filter_map f xs ≡ filter_map (λ both. g both.0 both.1) (zip (map h xs) ps)
zip-agree f h g x0 p0 [] ps same each = refl
zip-agree f h g x0 p0 (x ∷ xs) [] same each = absurd (omega (arith, same))
zip-agree f h g x0 p0 (x ∷ xs) (p ∷ ps) same each =
    λ i. cons_option (each 0 (omega arith) i) (zip-agree f h g x0 p0 xs ps (omega (arith, same)) (λ k below. each (suc k) (omega (arith, below))) i)

-- a place that is none is absent
pub none-is : (place : Option ℕ) → ((from : ℕ) → place ≡ Some from → ⊥) → place ≡ None
none-is None other = refl
none-is (Some from) other = absurd (other from refl)

-- amounts were taken from the lanes of the first so many heads
pub record AreLess (rows : ℕ) (taken : List (List ℕ)) (heads : List LossHead) (places : List (Option ℕ)) (lanes : List (List ℕ)) (at : ℕ) (left : List (List ℕ)) : Type 0 where
  pub same : length left ≡ length lanes
  pub wide : AreWide rows left
  pub done : (k : ℕ) → k < at → k < length heads → IsLane rows (λ row. slice_index (lane_of lanes (slice_index_or heads k no_head)) row - amount_in taken (slice_index_or places k None) row) (lane_of left (slice_index_or heads k no_head))
  pub rest : (k : ℕ) → at ≤ k → k < length heads → lane_of left (slice_index_or heads k no_head) ≡ lane_of lanes (slice_index_or heads k no_head)

module _ (rows : ℕ) (taken : List (List ℕ)) (heads : List LossHead) (places : List (Option ℕ)) (lanes : List (List ℕ)) (have : HaveLanes lanes heads) (apart : AreApart heads) (wide : AreWide rows lanes) where
  -- none at first
  pub less-start : AreLess rows taken heads places lanes 0 lanes
  less-start = record { same = refl; wide = wide; done = λ k below inside. absurd (omega (arith, below)); rest = λ k above inside. refl }

  module _ (at : ℕ) (inside : at < length heads) (left : List (List ℕ)) (so_far : AreLess rows taken heads places lanes at left) where
    here : place_at heads at < length left
    here = omega (arith, have at no_head inside, so_far.same)

    -- those of one more
    module _ (lane : List ℕ) (lane_is : IsLane rows (λ row. slice_index (lane_of left (slice_index_or heads at no_head)) row - amount_in taken (slice_index_or places at None) row) lane) (next : List (List ℕ)) (next_is : next ≡ slice_set left (place_at heads at) lane) where
      own : lane_of next (slice_index_or heads at no_head) ≡ lane
      own = ap (λ (all : List (List ℕ)). slice_index_or all (place_at heads at) []) next_is ∙ get_or-set_same left (place_at heads at) lane [] here

      other : (k : ℕ) → place_at heads k ≢ place_at heads at → lane_of next (slice_index_or heads k no_head) ≡ lane_of left (slice_index_or heads k no_head)
      other k differ = ap (λ (all : List (List ℕ)). slice_index_or all (place_at heads k) []) next_is ∙ get_or-set_other left (place_at heads at) (place_at heads k) lane [] differ

      abbrev Done : ℕ → Type 0
      Done k = IsLane rows (λ row. slice_index (lane_of lanes (slice_index_or heads k no_head)) row - amount_in taken (slice_index_or places k None) row) (lane_of next (slice_index_or heads k no_head))

      done-here : Done at
      done-here = record {
        wide = ap (λ (one : List ℕ). length one) own ∙ lane_is.wide;
        each = λ row below.
            ap (λ (one : List ℕ). slice_index one row) own
            ∙ (lane_is.each row below ∙ ap (λ (one : List ℕ). slice_index one row - amount_in taken (slice_index_or places at None) row) (so_far.rest at (omega arith) inside));
      }

      before : (k : ℕ) → k < at → k < length heads → Done k
      before k below within =
          let less = rises-far (place_at heads) (length heads) apart k at below inside in
          subst (IsLane rows (λ row. slice_index (lane_of lanes (slice_index_or heads k no_head)) row - amount_in taken (slice_index_or places k None) row)) (sym (other k (λ same. absurd (omega (arith, less, same))))) (so_far.done k below within)

      by : (k : ℕ) → k < at + 1 → k < length heads → (k ≡ at) ⊎ (k ≢ at) → Done k
      by k below within (inl same) = subst Done (sym same) done-here
      by k below within (inr differ) = before k (omega (arith, below, differ)) within

      pub less-next : AreLess rows taken heads places lanes (at + 1) next
      less-next = record {
        same = ap length next_is ∙ (length-set left (place_at heads at) lane ∙ so_far.same);
        wide = subst (AreWide rows) (sym next_is) (All-set (λ (one : List ℕ). length one ≡ rows) left (place_at heads at) lane lane_is.wide so_far.wide);
        done = λ k below within. by k below within (cases_eq k at);
        rest = λ k above within.
            let less = rises-far (place_at heads) (length heads) apart at k (omega (arith, above)) within in
            other k (λ same. absurd (omega (arith, less, same))) ∙ so_far.rest k (omega (arith, above)) within;
      }

    abbrev lane_here : List ℕ
    lane_here = lane_of left (slice_index_or heads at no_head)

    -- where no place is named, nothing is taken
    pub less-none : slice_index_or places at None ≡ None → AreLess rows taken heads places lanes (at + 1) left
    less-none none =
        less-next lane_here
        (record {
          wide = so_far.wide (place_at heads at) [] here;
          each = λ row below. nothing (slice_index lane_here row) ∙ ap (λ (place : Option ℕ). slice_index lane_here row - amount_in taken place row) (sym none);
        })
        left (sym (set-get_or left (place_at heads at) []))
      where
        nothing : (n : ℕ) → n ≡ n - 0
        nothing n = omega arith

    -- where one is named, its amounts are
    pub less-some : AreWide rows taken → (from : ℕ) → slice_index_or places at None ≡ Some from → from < length taken → (less : List ℕ) → less ≡ slice_index_or taken from less → (next : List (List ℕ)) → IsLessened (place_at heads at) less left next → AreLess rows taken heads places lanes (at + 1) next
    less-some as_wide from from_is within less less_is next lessened =
        let long : length less ≡ rows = ap (λ (one : List ℕ). length one) less_is ∙ as_wide from less within in
        less-next lessened.lane
        (record {
          wide = lessened.lane_is.wide ∙ long;
          each = λ row below.
              lessened.lane_is.each row (omega (arith, below, long))
              ∙ (ap (λ (one : List ℕ). slice_index lane_here row - slice_index one row) less_is
              ∙ (ap (λ (n : ℕ). slice_index lane_here row - n) (sym (column-at row from taken less within))
              ∙ ap (λ (place : Option ℕ). slice_index lane_here row - amount_in taken place row) (sym from_is)));
        })
        next lessened.now_is

  -- the records that are left
  pub less-records : (at : ℕ) → length heads ≤ at → (left : List (List ℕ)) → AreLess rows taken heads places lanes at left → length places ≡ length heads → filter_map (left_record left) heads ≡ records_less rows taken (lane_records heads lanes) places
  less-records at past left so_far many = zip-agree (left_record left) (head_record lanes) (record_less rows taken) no_head None heads places many each
    where
      each : (k : ℕ) → k < length heads → left_record left (slice_index_or heads k no_head) ≡ record_less rows taken (head_record lanes (slice_index_or heads k no_head)) (slice_index_or places k None)
      each k below =
          let head = slice_index_or heads k no_head in
          let place = slice_index_or places k None in
          let now = lane_of left head in
          let old = lane_of lanes head in
          let is = so_far.done k (omega (arith, below, past)) below in
          let long : length old ≡ rows = wide (place_at heads k) [] (have k no_head below) in
          ap (record_with head.event head.id)
          (ap (pairs_by_row (slice_index now)) is.wide
          ∙ pairs-agree (slice_index now) (λ row. loss_of (sidx_at (row_place row)) (pairs_with head.deviation old) - amount_in taken place row) rows
          (λ row within. is.each row within ∙ ap (λ (n : ℕ). n - amount_in taken place row) (sym (with-row head.deviation old row (omega (arith, within, long))))))
