-- The struck items of one coverage among all.
use Rattle.std.proofs.Common.{◌≡◌, ◌≢◌, ◌⊎◌, ℕ, zero, suc, ◌+◌, ◌-◌, ◌*◌, ◌/◌, ◌^◌, ◌<◌, ◌≤◌, ◌&&◌, Bool, true, false, cond, nat_eq, nat_lt, List, [], ◌∷◌, ◌++◌, length, take, drop, map, get_or, min, refl, sym, ap, subst, arith, ◌∙◌, append_assoc, inl, inr}
use Rattle.std.specs.List.{All, AllByRecursion, IsDistinct, filter, filter_map, flat_map, sum_by}
use Rattle.std.specs.Cmp.{nat_eq_equiv}
use Rattle.std.proofs.lemmas.Bool.{eqb-false, cases_lt}
use Rattle.std.proofs.lemmas.Bool.Decides.{nat_tests}
use Rattle.std.proofs.lemmas.List.{get_or-map, length-map, length-take-le, length-drop, get_or-take, get_or-drop, get_or_default, drop-drop, map-append}
use Rattle.std.proofs.lemmas.List.Concat.{flat_map-append}
use Rattle.std.proofs.lemmas.List.Elements.{All-filter, filter_map-append}
use Rattle.std.proofs.lemmas.List.Sorted.{All-permutation, IsPermutation-map, length_permutation, sum_by-IsPermutation}
use Rattle.std.proofs.lemmas.List.Sums.{sum_by-cons, sum_by-take-drop}
use Rattle.std.proofs.lemmas.Map.Keys.{IsDistinct-head, IsDistinct-tail, IsDistinct-cons, IsDistinct-IsPermutation, apart_from_distinct}
use Rattle.kt_money.specs.Rounding.{root}
use Rattle.kt_rec.specs.Rows.{Rows}
use Rattle.kt_rec.specs.Ranges.{IsItem}
use Rattle.kt_rec.specs.declared.exposure.Item.{Item}
use Rattle.kt_stream.specs.declared.entry.Cdf.{Cdf}
use Rattle.kt_stream.specs.declared.entry.LossRecord.{LossRecord}
use Rattle.kt_gul.specs.declared.struck.StruckItem.{StruckItem}
use Rattle.kt_rec.specs.declared.hazard.DamageBin.{DamageBin}
use Rattle.kt_tables.specs.Lookups.{random_of}
use Rattle.kt_damage.specs.SampledLoss.{sampled_loss}
use Rattle.kt_damage.specs.ItemMoments.{mean_loss, loss_deviation}
use Rattle.kt_gul.specs.GroundUp.{item_tiv, has_pair, bins_of, loss_by, raw_loss, coverage_total, total_before, item_record}
use Rattle.kt_gul.specs.Coverage.{IsGroup, IsStruck, group_total}
use Rattle.kt_gul.specs.StruckItems.{AreInOrder, has_cdf, item_of}
use Rattle.kt_gul.specs.Groups.{IsGroupEnd, AreDone}

-- ---- items that are not struck

-- an item that no distribution is for has no bins
bins_of-none : (cdfs : List Cdf) (row : Item) → has_cdf cdfs row ≡ false → bins_of cdfs row ≡ []
bins_of-none [] row none = refl
bins_of-none (cdf ∷ cdfs) row none = by (has_pair cdf.areaperil cdf.vulnerability row) refl (bins_of-none cdfs row) none
  where
    by : (b : Bool) → has_pair cdf.areaperil cdf.vulnerability row ≡ b → (has_cdf cdfs row ≡ false → bins_of cdfs row ≡ []) → has_cdf (cdf ∷ cdfs) row ≡ false → bins_of (cdf ∷ cdfs) row ≡ []
    by true is rest none = let h = rw is at none in absurd cc
    by false is rest none = rw is (rest (rw is at none))

-- without bins there is no loss
no_loss : (rows : Rows) (event : ℕ) (row : Item) (place : ℕ) → loss_by rows event [] row place ≡ 0
unfolding root
no_loss rows event row zero = deviation (item_tiv rows row)
  where
    none : (tiv : ℕ) → tiv * 0 ≡ 0
    none tiv = omega arith

    deviation : (tiv : ℕ) → loss_deviation tiv [] ≡ 0
    deviation tiv = ap (λ n. n / 10 ^ 18) (none tiv)
no_loss rows event row (suc zero) = mean (item_tiv rows row)
  where
    none : (tiv : ℕ) → tiv * 0 ≡ 0
    none tiv = omega arith

    mean : (tiv : ℕ) → mean_loss tiv [] ≡ 0
    mean tiv = ap (λ n. min tiv ((2 * n + 10 ^ 18) / (2 * 10 ^ 18))) (none tiv) ∙ omega arith
no_loss rows event row (suc (suc earlier)) = sample (item_tiv rows row)
  where
    none : (tiv : ℕ) → tiv * 0 ≡ 0
    none tiv = omega arith

    sample : (tiv : ℕ) → sampled_loss tiv rows.damage_bin_dict [] (random_of rows event row.group_id (earlier + 1) * 1000000) ≡ 0
    sample tiv = past rows.damage_bin_dict
      where
        past : (dictionary : List DamageBin) → sampled_loss tiv dictionary [] (random_of rows event row.group_id (earlier + 1) * 1000000) ≡ 0
        past [] = ap (λ n. (2 * n + 1000000) / (2 * 1000000)) (none tiv)
        past (d ∷ dictionary) = ap (λ n. (2 * n + 1000000) / (2 * 1000000)) (none tiv)

-- an item that is not struck has no loss
pub raw_loss-none : (rows : Rows) (event : ℕ) (cdfs : List Cdf) (row : Item) (place : ℕ) → has_cdf cdfs row ≡ false → raw_loss rows event cdfs row place ≡ 0
raw_loss-none rows event cdfs row place none = ap (λ bins. loss_by rows event bins row place) (bins_of-none cdfs row none) ∙ no_loss rows event row place

-- a sum over what a test passes is that over all, where the others add nothing
pub sum_by-filter : (p : Item → Bool) (g : Item → ℕ) → ((row : Item) → p row ≡ false → g row ≡ 0) → (items : List Item) → sum_by g (filter p items) ≡ sum_by g items
sum_by-filter p g none [] = refl
sum_by-filter p g none (row ∷ rows) = by (p row) refl (sum_by-filter p g none rows)
  where
    by : (b : Bool) → p row ≡ b → sum_by g (filter p rows) ≡ sum_by g rows → sum_by g (filter p (row ∷ rows)) ≡ sum_by g (row ∷ rows)
    by true is rest = rw is (sum_by-cons g row (filter p rows) ∙ (ap (λ n. g row + n) rest ∙ sym (sum_by-cons g row rows)))
    by false is rest = rw is (rest ∙ omega (arith, sum_by-cons g row rows, none row is))

-- a sum over the items of struck items
sum_by-items : (g : Item → ℕ) (struck : List StruckItem) → sum_by g (map item_of struck) ≡ sum_by (λ s. g s.item) struck
sum_by-items g [] = refl
sum_by-items g (s ∷ struck) = sum_by-cons g s.item (map item_of struck) ∙ (ap (λ n. g s.item + n) (sum_by-items g struck) ∙ sym (sum_by-cons (λ s. g s.item) s struck))

-- ---- sums over parts

-- a sum of nothing
sum_by-nothing : (f : StruckItem → ℕ) (xs : List StruckItem) → ((k : ℕ) (d : StruckItem) → k < length xs → f (get_or xs k d) ≡ 0) → sum_by f xs ≡ 0
sum_by-nothing f [] none = refl
sum_by-nothing f (x ∷ xs) none = sum_by-cons f x xs ∙ omega (arith, none 0 x (omega arith), sum_by-nothing f xs (λ k d below. none (suc k) d (omega arith)))

-- equal sums
sum_by-agree : (f g : StruckItem → ℕ) (xs : List StruckItem) → ((k : ℕ) (d : StruckItem) → k < length xs → f (get_or xs k d) ≡ g (get_or xs k d)) → sum_by f xs ≡ sum_by g xs
sum_by-agree f g [] same = refl
sum_by-agree f g (x ∷ xs) same = sum_by-cons f x xs ∙ (omega (arith, same 0 x (omega arith), sum_by-agree f g xs (λ k d below. same (suc k) d (omega arith))) ∙ sym (sum_by-cons g x xs))

-- ---- tests of items

-- an item of another coverage adds nothing
test_other : (a b n : ℕ) → a ≢ b → cond (nat_eq a b) n 0 ≡ 0
test_other a b n other = grind (arith, nat_tests)

-- an item of the coverage adds its loss
test_same : (a b n : ℕ) → a ≡ b → cond (nat_eq a b) n 0 ≡ n
test_same a b n same = grind (arith, nat_tests)

-- an item of another coverage does not count before an item
before_other : (a b x y n : ℕ) → a ≢ b → cond (nat_eq a b && nat_lt x y) n 0 ≡ 0
before_other a b x y n other = grind (arith, nat_tests)

-- nor does one with another id that is not below
before_later : (a b x y n : ℕ) → y ≤ x → cond (nat_eq a b && nat_lt x y) n 0 ≡ 0
before_later a b x y n later = by (nat_eq a b)
  where
    by : (t : Bool) → cond (t && nat_lt x y) n 0 ≡ 0
    by true = grind (arith, nat_tests)
    by false = refl

-- one of the coverage with a lower id does
before_same : (a b x y n : ℕ) → a ≡ b → x < y → cond (nat_eq a b && nat_lt x y) n 0 ≡ n
before_same a b x y n same less = grind (arith, nat_tests)

-- where there is no loss, a test adds nothing
no_more : (b : Bool) (n : ℕ) → n ≡ 0 → cond b n 0 ≡ 0
no_more true n none = none
no_more false n none = refl

-- ---- distinct items

-- what holds of each key holds of those that a test passes
each_filter : (P : ℕ → Type 0) (p : Item → Bool) (rows : List Item) → AllByRecursion P (map (λ row. row.item_id) rows) → AllByRecursion P (map (λ row. row.item_id) (filter p rows))
each_filter P p [] each = each
each_filter P p (row ∷ rows) each = by (p row) refl (each_filter P p rows each.1)
  where
    by : (b : Bool) → p row ≡ b → AllByRecursion P (map (λ row. row.item_id) (filter p rows)) → AllByRecursion P (map (λ row. row.item_id) (filter p (row ∷ rows)))
    by true is rest = rw is (each.0, rest)
    by false is rest = rw is rest

-- distinct items stay so behind a test
pub distinct_filter : (p : Item → Bool) (rows : List Item) → IsDistinct nat_eq (map (λ row. row.item_id) rows) → IsDistinct nat_eq (map (λ row. row.item_id) (filter p rows))
distinct_filter p [] distinct = distinct
distinct_filter p (row ∷ rows) distinct = by (p row) refl (distinct_filter p rows (IsDistinct-tail nat_eq row.item_id (map (λ row. row.item_id) rows) distinct))
  where
    by : (b : Bool) → p row ≡ b → IsDistinct nat_eq (map (λ row. row.item_id) (filter p rows)) → IsDistinct nat_eq (map (λ row. row.item_id) (filter p (row ∷ rows)))
    by true is rest = rw is (IsDistinct-cons nat_eq row.item_id _ (each_filter (λ y. nat_eq row.item_id y ≡ false) p rows (IsDistinct-head nat_eq row.item_id (map (λ row. row.item_id) rows) distinct)) rest)
    by false is rest = rw is rest

-- a test passes no more
length_filter-le : (p : Item → Bool) (rows : List Item) → length (filter p rows) ≤ length rows
length_filter-le p [] = omega arith
length_filter-le p (row ∷ rows) = by (p row) refl (length_filter-le p rows)
  where
    by : (b : Bool) → p row ≡ b → length (filter p rows) ≤ length rows → length (filter p (row ∷ rows)) ≤ length (row ∷ rows)
    by true is rest = rw is (omega arith)
    by false is rest = rw is (omega arith)

-- a front in two parts
pub take_parts : (a n : ℕ) (xs : List StruckItem) → take (a + n) xs ≡ take a xs ++ take n (drop a xs)
take_parts zero n xs = ap (λ n. take n xs) (omega arith)
take_parts (suc a) n [] = short (suc a + n) ∙ sym (short n)
  where
    short : (n : ℕ) → take {A = StruckItem} n [] ≡ []
    short zero = refl
    short (suc n) = refl
take_parts (suc a) n (x ∷ xs) =
    let e : suc a + n ≡ suc (a + n) = omega arith in
    rw e (ap (λ xs. x ∷ xs) (take_parts a n xs))

-- ---- the struck items in order

module _ (rows : Rows) (event : ℕ) (cdfs : List Cdf) (struck : List StruckItem) (order : AreInOrder rows cdfs struck) (ranges : All IsItem rows.items) (distinct : IsDistinct nat_eq (map (λ row. row.item_id) rows.items)) (limit : length rows.items ≤ 100000) where
  -- a sum over all items is that over the struck ones, where the others add nothing
  struck_sum : (g : Item → ℕ) → ((row : Item) → has_cdf cdfs row ≡ false → g row ≡ 0) → sum_by g rows.items ≡ sum_by (λ s. g s.item) struck
  struck_sum g none = sym (sum_by-filter (has_cdf cdfs) g none rows.items) ∙ (sym (sum_by-IsPermutation g (filter (has_cdf cdfs) rows.items) (map item_of struck) order.items_are) ∙ sum_by-items g struck)

  -- there are no more struck items than items
  struck_few : length struck ≤ 100000
  struck_few = omega (arith, length-map struck item_of, length_permutation (filter (has_cdf cdfs) rows.items) (map item_of struck) order.items_are, length_filter-le (has_cdf cdfs) rows.items)

  -- their ids are in their range
  ids_within : (k : ℕ) (d : StruckItem) → k < length struck → (get_or struck k d).item.item_id ≤ 2147483647
  ids_within k d below =
      let all = All-permutation IsItem (filter (has_cdf cdfs) rows.items) (map item_of struck) order.items_are (All-filter (has_cdf cdfs) IsItem rows.items ranges) in
      let one = subst IsItem (get_or-map item_of struck k d d.item below) (all k d.item (omega (arith, length-map struck item_of))) in
      let id = one.item_id in
      id.most

  -- and differ
  ids_differ : (i j : ℕ) (d : StruckItem) → i < j → j < length struck → (get_or struck i d).item.item_id ≢ (get_or struck j d).item.item_id
  ids_differ i j d before below =
      let id : Item → ℕ = λ row. row.item_id in
      let apart = IsDistinct-IsPermutation nat_eq (λ x y. nat_eq_equiv.symm x y) (map id (filter (has_cdf cdfs) rows.items)) (map id (map item_of struck)) (IsPermutation-map id (filter (has_cdf cdfs) rows.items) (map item_of struck) order.items_are) (distinct_filter (has_cdf cdfs) rows.items distinct) in
      let items = length-map struck item_of in
      let differ = apart_from_distinct nat_eq (map id (map item_of struck)) i j 0 apart before (omega (arith, length-map (map item_of struck) id)) in
      let first : get_or (map id (map item_of struck)) i 0 ≡ (get_or struck i d).item.item_id = get_or-map id (map item_of struck) i d.item 0 (omega arith) ∙ ap id (get_or-map item_of struck i d d.item (omega arith)) in
      let second : get_or (map id (map item_of struck)) j 0 ≡ (get_or struck j d).item.item_id = get_or-map id (map item_of struck) j d.item 0 (omega arith) ∙ ap id (get_or-map item_of struck j d d.item below) in
      λ same. eqb-false _ _ differ (first ∙ (same ∙ sym second))

  -- their coverages do not fall
  coverages_rise : (i j : ℕ) (d : StruckItem) → i ≤ j → j < length struck → (get_or struck i d).item.coverage_id ≤ (get_or struck j d).item.coverage_id
  coverages_rise i j d before below = omega (arith, order.rising i j d before below, ids_within i d (omega arith), ids_within j d below)

  -- within a coverage their ids rise
  ids_rise : (i j : ℕ) (d : StruckItem) → i < j → j < length struck → (get_or struck i d).item.coverage_id ≡ (get_or struck j d).item.coverage_id → (get_or struck i d).item.item_id < (get_or struck j d).item.item_id
  ids_rise i j d before below same =
      let up = order.rising i j d (omega arith) below in
      let other = ids_differ i j d before below in
      omega arith

  module _ (start last coverage : ℕ) (end : IsGroupEnd struck start coverage last) (apart : (k j : ℕ) (d : StruckItem) → k < start → start ≤ j → j < length struck → (get_or struck k d).item.coverage_id < (get_or struck j d).item.coverage_id) where
    -- the items of the coverage
    abbrev group : List StruckItem
    group = take (last - start) (drop start struck)

    -- each of them among all
    group_at : (k : ℕ) (d : StruckItem) → k < last - start → get_or group k d ≡ get_or struck (start + k) d
    group_at k d below = get_or-take (last - start) (drop start struck) k d below ∙ get_or-drop start struck k d

    -- how many there are
    group_length : length group ≡ last - start
    group_length = length-take-le (last - start) (drop start struck) (omega (arith, length-drop start struck, end.within))

    -- all items in three parts
    three_sums : (f : StruckItem → ℕ) → sum_by f (take start struck) + (sum_by f group + sum_by f (drop last struck)) ≡ sum_by f struck
    three_sums f =
        let later : sum_by f (drop (last - start) (drop start struck)) ≡ sum_by f (drop last struck) = ap (sum_by f) (drop-drop (last - start) start struck ∙ ap (λ n. drop n struck) (omega (arith, end.after))) in
        omega (arith, sum_by-take-drop f struck start, sum_by-take-drop f (drop start struck) (last - start), later)

    -- those of the coverage are of it
    of_coverage : (k : ℕ) (d : StruckItem) → k < last - start → (get_or group k d).item.coverage_id ≡ coverage
    of_coverage k d below = ap (λ (s : StruckItem). s.item.coverage_id) (group_at k d below) ∙ end.together (start + k) d (omega arith) (omega arith)

    -- those before are not
    not_before : (k : ℕ) (d : StruckItem) → k < length (take start struck) → (get_or (take start struck) k d).item.coverage_id ≢ coverage
    not_before k d below same =
        let inside : k < start = omega (arith, length-take-le start struck (omega (arith, end.after, end.within))) in
        let less = apart k start d inside (omega arith) (omega (arith, end.after, end.within)) in
        let own = end.together start d (omega arith) end.after in
        let here = ap (λ (s : StruckItem). s.item.coverage_id) (get_or-take start struck k d inside) in
        omega arith

    -- those behind are of higher coverages
    pub later_coverage : (j : ℕ) (d : StruckItem) → last ≤ j → j < length struck → coverage < (get_or struck j d).item.coverage_id
    later_coverage j d behind below =
        let other = end.other d (omega arith) in
        let own = end.together start d (omega arith) end.after in
        omega (arith, coverages_rise start last d (omega (arith, end.after)) (omega arith), coverages_rise last j d behind below)

    -- so they are not of it
    not_behind : (k : ℕ) (d : StruckItem) → k < length (drop last struck) → (get_or (drop last struck) k d).item.coverage_id ≢ coverage
    not_behind k d below same =
        let higher = later_coverage (last + k) d (omega arith) (omega (arith, length-drop last struck)) in
        let here = ap (λ (s : StruckItem). s.item.coverage_id) (get_or-drop last struck k d) in
        omega arith

    -- the total of the coverage
    total_is : (place : ℕ) → group_total rows event cdfs group place ≡ coverage_total (λ row. raw_loss rows event cdfs row place) rows.items coverage
    total_is place =
        let loss : Item → ℕ = λ row. raw_loss rows event cdfs row place in
        let g : Item → ℕ = λ row. cond (nat_eq row.coverage_id coverage) (loss row) 0 in
        let f : StruckItem → ℕ = λ s. g s.item in
        let all = struck_sum g (λ row none. no_more (nat_eq row.coverage_id coverage) (loss row) (raw_loss-none rows event cdfs row place none)) in
        let before = sum_by-nothing f (take start struck) (λ k d below. test_other _ coverage _ (not_before k d below)) in
        let behind = sum_by-nothing f (drop last struck) (λ k d below. test_other _ coverage _ (not_behind k d below)) in
        let own = sum_by-agree f (λ s. loss s.item) group (λ k d below. test_same _ coverage _ (of_coverage k d (omega (arith, group_length)))) in
        omega (arith, all, before, behind, own, three_sums f)

    -- the total of those before an item
    before_is : (place i : ℕ) (d : StruckItem) → i < length group → group_total rows event cdfs (take i group) place ≡ total_before (λ row. raw_loss rows event cdfs row place) rows.items (get_or group i d).item
    before_is place i d inside =
        let loss : Item → ℕ = λ row. raw_loss rows event cdfs row place in
        let item = (get_or group i d).item in
        let short : i < last - start = omega (arith, group_length) in
        let own = of_coverage i d short in
        let g : Item → ℕ = λ row. cond (nat_eq row.coverage_id item.coverage_id && nat_lt row.item_id item.item_id) (loss row) 0 in
        let f : StruckItem → ℕ = λ s. g s.item in
        let all = struck_sum g (λ row none. no_more (nat_eq row.coverage_id item.coverage_id && nat_lt row.item_id item.item_id) (loss row) (raw_loss-none rows event cdfs row place none)) in
        let before = sum_by-nothing f (take start struck) (λ k e below. before_other _ item.coverage_id _ _ _ (λ same. not_before k e below (same ∙ own))) in
        let behind = sum_by-nothing f (drop last struck) (λ k e below. before_other _ item.coverage_id _ _ _ (λ same. not_behind k e below (same ∙ own))) in
        let first = sum_by-agree f (λ s. loss s.item) (take i group) (λ k e below. earlier k e (omega (arith, length-take-le i group (omega arith)))) in
        let later = sum_by-nothing f (drop i group) (λ k e below. before_later _ item.coverage_id _ item.item_id _ (higher k e (omega (arith, length-drop i group)))) in
        omega (arith, all, before, behind, first, later, three_sums f, sum_by-take-drop f group i)
      where
        at_item : get_or group i d ≡ get_or struck (start + i) d
        at_item = group_at i d (omega (arith, group_length))

        earlier : (k : ℕ) (e : StruckItem) → k < i → (cond (nat_eq (get_or (take i group) k e).item.coverage_id (get_or group i d).item.coverage_id && nat_lt (get_or (take i group) k e).item.item_id (get_or group i d).item.item_id) (raw_loss rows event cdfs (get_or (take i group) k e).item place) 0) ≡ raw_loss rows event cdfs (get_or (take i group) k e).item place
        earlier k e below =
            let read : get_or (take i group) k e ≡ get_or struck (start + k) d = get_or-take i group k e below ∙ (group_at k e (omega (arith, group_length)) ∙ get_or_default struck (start + k) e d (omega (arith, group_length, end.within))) in
            let same : (get_or struck (start + k) d).item.coverage_id ≡ (get_or struck (start + i) d).item.coverage_id = end.together (start + k) d (omega arith) (omega (arith, group_length)) ∙ sym (end.together (start + i) d (omega arith) (omega (arith, group_length))) in
            let less = ids_rise (start + k) (start + i) d (omega arith) (omega (arith, group_length, end.within)) same in
            rw (read, at_item) (before_same _ _ _ _ _ same less)

        higher : (k : ℕ) (e : StruckItem) → i + k < length group → (get_or group i d).item.item_id ≤ (get_or (drop i group) k e).item.item_id
        higher k e below =
            let read : get_or (drop i group) k e ≡ get_or struck (start + (i + k)) d = get_or-drop i group k e ∙ (group_at (i + k) e (omega (arith, group_length)) ∙ get_or_default struck (start + (i + k)) e d (omega (arith, group_length, end.within))) in
            let one = end.together (start + i) d (omega arith) (omega (arith, group_length)) in
            let other = end.together (start + (i + k)) d (omega arith) (omega (arith, group_length)) in
            let up = order.rising (start + i) (start + (i + k)) d (omega arith) (omega (arith, group_length, end.within)) in
            rw (read, at_item) (omega arith)

    -- the items of the coverage are all those of it
    pub group_is : IsGroup rows event cdfs coverage group
    group_is = record {
      struck = λ k d below. let short : k < last - start = omega (arith, group_length) in subst (IsStruck rows cdfs) (sym (group_at k d short)) (order.each (start + k) d (omega (arith, end.within)));
      together = λ k d below. of_coverage k d (omega (arith, group_length));
      few = omega (arith, group_length, struck_few, end.within);
      total_is = total_is;
      before_is = before_is;
    }

    -- the records of one more coverage
    pub done_more : {A : Type 0} (spelled : LossRecord → List A) (samples : ℕ) (cut : Bool) (first pieces longer : List A) → AreDone spelled rows samples cut event cdfs struck start first pieces → longer ≡ pieces ++ flat_map spelled (filter_map (item_record rows samples cut event cdfs) (map item_of group)) → AreDone spelled rows samples cut event cdfs struck last first longer
    done_more spelled samples cut first pieces longer here longer_is = record {
      within = end.within;
      pieces_are =
          let made = item_record rows samples cut event cdfs in
          let done = map item_of (take start struck) in
          let next = map item_of group in
          longer_is ∙ (ap (λ pieces. pieces ++ flat_map spelled (filter_map made next)) here.pieces_are
          ∙ (append_assoc first (flat_map spelled (filter_map made done)) (flat_map spelled (filter_map made next))
          ∙ ap (λ more. first ++ more) (sym (flat_map-append spelled (filter_map made done) (filter_map made next)) ∙ ap (flat_map spelled) (sym (filter_map-append made done next)
          ∙ ap (filter_map made) (sym (map-append item_of (take start struck) group) ∙ ap (map item_of) (sym (take_parts start (last - start) struck) ∙ ap (λ n. take n struck) (omega (arith, end.after))))))));
      apart = λ k j d before behind below. by k j d before behind below (cases_lt k start);
    }
      where
        by : (k j : ℕ) (d : StruckItem) → k < last → last ≤ j → j < length struck → (k < start) ⊎ (start ≤ k) → (get_or struck k d).item.coverage_id < (get_or struck j d).item.coverage_id
        by k j d before behind below (inl earlier) = here.apart k j d earlier (omega (arith, end.after)) below
        by k j d before behind below (inr own) = omega (arith, end.together k d own before, later_coverage j d behind below)
