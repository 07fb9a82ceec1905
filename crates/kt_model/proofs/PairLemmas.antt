-- The pairs that items have rise by areaperil, and what stands between two of them has no rows.
use Rattle.std.proofs.Common.{◌≡◌, Bool, ℕ, ◌+◌, ◌-◌, ◌<◌, ◌≤◌, true, false, List, [], ◌∷◌, ◌++◌, length, get_or, take, refl, ap, sym, ◌∙◌, ◌⊎◌, inl, inr, nat_eq, ltb, None, suc, zero, drop, arith, append-nil}
use Rattle.std.proofs.lemmas.Bool.{ltb-true, ltb-false}
use Rattle.std.proofs.lemmas.List.{get_or-drop, get_or_default, length-drop}
use Rattle.std.proofs.lemmas.Bool.Decides.{nat_tests}
use Rattle.std.proofs.lemmas.List.Elements.{All-nil, All-cons}
use Rattle.std.proofs.lemmas.Map.Views.{All-insert_key}
use Rattle.std.specs.Prelude.{All}
use Rattle.std.specs.List.{cons_option, filter_map, fold}
use Rattle.std.specs.List.Sorted.{IsNonDecreasingBy, IsPartitionPoint}
use Rattle.std.specs.BTreeSet.{insert_key}
use Rattle.std.specs.Ordering.{match_ordering, nat_cmp, ordering_then}
use Rattle.std.specs.declared.cmp.Ordering.{Ordering}
use Rattle.std.specs.declared.cmp.Ordering.TheVariants.{Less, Equal, Greater}
use Rattle.kt_rec.specs.declared.exposure.Item.{Item}
use Rattle.kt_rec.specs.declared.hazard.FootRow.{FootRow}
use Rattle.kt_stream.specs.declared.entry.Cdf.{Cdf}
use Rattle.kt_tables.specs.Lookups.{item_pairs, pair_of, pair_order}
use Rattle.kt_rec.specs.Rows.{Rows}
use Rattle.kt_model.specs.Distribution.{chance_of, record_of, record_with}
use Rattle.kt_model.specs.Scratch.{HasNone}
use Rattle.kt_model.proofs.BinLemmas.{bins_zero}
use Rattle.kt_model.proofs.ChanceLemmas.{chance_none}
use Rattle.kt_model.proofs.RecordLemmas.{filter_map_more}

-- rows that are all of other areaperils
pub none_of : (rows : List FootRow) (areaperil : ℕ) → ((k : ℕ) (d : FootRow) → k < length rows → nat_eq (get_or rows k d).areaperil areaperil ≡ false) → HasNone rows areaperil
none_of [] areaperil others = refl
none_of (row ∷ rows) areaperil others = rw (others 0 row (omega arith)) (none_of rows areaperil (λ k d below. others (suc k) d (omega arith)))

other : (m n : ℕ) → (m < n) → nat_eq m n ≡ false
other m n h = grind (arith, nat_tests)

above : (m n : ℕ) → (n < m) → nat_eq m n ≡ false
above m n h = grind (arith, nat_tests)

module _ (rows : List FootRow) (least start : ℕ) (parted : IsPartitionPoint (λ row. ltb row.areaperil least ≡ true) (λ row. ltb row.areaperil least ≡ false) rows start) where
  -- rows that all end below an areaperil
  pub none_behind : length rows ≤ start → (areaperil : ℕ) → least ≤ areaperil → HasNone rows areaperil
  none_behind whole areaperil from = none_of rows areaperil (λ k d below.
      let low = ltb-true (get_or rows k d).areaperil least (parted.0 k d (omega arith) (omega arith)) in
      other (get_or rows k d).areaperil areaperil (omega arith))

  -- the areaperils up to the next one
  pub none_between : (d : FootRow) → start < length rows → IsNonDecreasingBy (λ row. row.areaperil) rows → (areaperil : ℕ) → least ≤ areaperil → areaperil < (get_or rows start d).areaperil → HasNone rows areaperil
  none_between d within rise areaperil from upto = none_of rows areaperil (λ k e below. by k e below (ltb k start) refl)
    where
      by : (k : ℕ) (e : FootRow) → k < length rows → (b : Bool) → ltb k start ≡ b → nat_eq (get_or rows k e).areaperil areaperil ≡ false
      by k e below true is =
          let earlier = ltb-true k start is in
          let low = ltb-true (get_or rows k e).areaperil least (parted.0 k e (omega arith) earlier) in
          other (get_or rows k e).areaperil areaperil (omega arith)
      by k e below false is =
          let later = ltb-false k start is in
          let high = rise start k e later below in
          let same = get_or_default rows start d e within in
          above (get_or rows k e).areaperil areaperil (omega (arith, ap (λ (row : FootRow). row.areaperil) same))

  -- the next one is not below
  pub next_least : (d : FootRow) → start < length rows → least ≤ (get_or rows start d).areaperil
  next_least d within = ltb-false (get_or rows start d).areaperil least (parted.1 start d (omega arith) within)

-- ---- the order of the pairs

first_less : (r s : Ordering) → ordering_then r s ≡ Less → (r ≡ Less) ⊎ (r ≡ Equal)
first_less Less s e = inl refl
first_less Equal s e = inr refl
first_less Greater s e = cc

first_greater : (r s : Ordering) → ordering_then r s ≡ Greater → (r ≡ Greater) ⊎ (r ≡ Equal)
first_greater Less s e = cc
first_greater Equal s e = inr refl
first_greater Greater s e = inl refl

not_above : (m n : ℕ) → (nat_cmp m n ≡ Less) ⊎ (nat_cmp m n ≡ Equal) → m ≤ n
not_above m n (inl less) = grind (arith, nat_tests)
not_above m n (inr equal) = grind (arith, nat_tests)

not_below : (m n : ℕ) → (nat_cmp m n ≡ Greater) ⊎ (nat_cmp m n ≡ Equal) → n ≤ m
not_below m n (inl greater) = grind (arith, nat_tests)
not_below m n (inr equal) = grind (arith, nat_tests)

-- the areaperil of a pair
abbrev areaperil_of : ℕ × ℕ → ℕ
areaperil_of pair = pair.0

rise_behind : (pair : ℕ × ℕ) (pairs : List (ℕ × ℕ)) → All (λ later. pair.0 ≤ later.0) pairs → IsNonDecreasingBy areaperil_of pairs → IsNonDecreasingBy areaperil_of (pair ∷ pairs)
rise_behind pair pairs above rise zero zero d le lt = omega arith
rise_behind pair pairs above rise zero (suc j) d le lt = above j d (omega arith)
rise_behind pair pairs above rise (suc i) zero d le lt = absurd (omega arith)
rise_behind pair pairs above rise (suc i) (suc j) d le lt = rise i j d (omega arith) (omega arith)

insert_rises : (pair : ℕ × ℕ) (pairs : List (ℕ × ℕ)) → IsNonDecreasingBy areaperil_of pairs → IsNonDecreasingBy areaperil_of (insert_key pair_order pairs pair)
insert_rises pair [] rise = rise_behind pair [] (All-nil (λ later. pair.0 ≤ later.0)) rise
insert_rises pair (first ∷ pairs) rise = by (pair_order pair first) refl (insert_rises pair pairs (λ i j d le lt. rise (suc i) (suc j) d (omega arith) (omega arith)))
  where
    least : All (λ later. first.0 ≤ later.0) pairs
    least k d lt = rise 0 (suc k) d (omega arith) (omega arith)

    by : (r : Ordering) → pair_order pair first ≡ r → IsNonDecreasingBy areaperil_of (insert_key pair_order pairs pair) → IsNonDecreasingBy areaperil_of (match_ordering r (pair ∷ first ∷ pairs) (first ∷ pairs) (first ∷ insert_key pair_order pairs pair))
    by Less is later =
        let low : pair.0 ≤ first.0 = not_above pair.0 first.0 (first_less (nat_cmp pair.0 first.0) (nat_cmp pair.1 first.1) is) in
        rise_behind pair (first ∷ pairs) (All-cons (λ later. pair.0 ≤ later.0) first pairs low (λ k d lt. let h = least k d lt in omega arith)) rise
    by Equal is later = rise
    by Greater is later =
        let low : first.0 ≤ pair.0 = not_below pair.0 first.0 (first_greater (nat_cmp pair.0 first.0) (nat_cmp pair.1 first.1) is) in
        rise_behind first (insert_key pair_order pairs pair) (All-insert_key pair_order pair (λ later. first.0 ≤ later.0) pairs least low) later

-- the pairs of items rise by areaperil
pub pairs_rise : (items : List Item) → IsNonDecreasingBy (λ (pair : ℕ × ℕ). pair.0) (item_pairs items)
pairs_rise items = from [] items (λ i j d le lt. absurd (omega arith))
  where
    from : (pairs : List (ℕ × ℕ)) (items : List Item) → IsNonDecreasingBy areaperil_of pairs → IsNonDecreasingBy areaperil_of (fold (λ found row. insert_key pair_order found (pair_of row)) pairs items)
    from pairs [] rise = rise
    from pairs (row ∷ items) rise = from (insert_key pair_order pairs (pair_of row)) items (insert_rises (pair_of row) pairs rise)

-- ---- pairs that are passed

module _ (pairs : List (ℕ × ℕ)) (rows : List FootRow) (place : ℕ) (e : ℕ × ℕ) (rise : IsNonDecreasingBy areaperil_of pairs) where
  -- behind the last areaperil that has rows
  pub passed_all : ((areaperil : ℕ) → (get_or pairs place e).0 ≤ areaperil → HasNone rows areaperil) → (k : ℕ) (d : ℕ × ℕ) → place ≤ k → k < length pairs → HasNone rows (get_or pairs k d).0
  passed_all none k d from within = none (get_or pairs k d).0 (omega (arith, rise place k d from within, ap areaperil_of (get_or_default pairs place d e (omega arith))))

  -- up to the next areaperil that has rows
  pub passed_between : (next count : ℕ) → IsPartitionPoint (λ pair. ltb pair.0 next ≡ true) (λ pair. ltb pair.0 next ≡ false) (drop place pairs) count → count ≤ length (drop place pairs)
      → ((areaperil : ℕ) → (get_or pairs place e).0 ≤ areaperil → areaperil < next → HasNone rows areaperil) → (k : ℕ) (d : ℕ × ℕ) → place ≤ k → k < place + count → HasNone rows (get_or pairs k d).0
  passed_between next count parted few none k d from below =
      let long = length-drop place pairs in
      let at : place + (k - place) ≡ k = omega arith in
      let here = ap areaperil_of (get_or-drop place pairs (k - place) d ∙ ap (λ n. get_or pairs n d) at) in
      let low = ltb-true (get_or (drop place pairs) (k - place) d).0 next (parted.0 (k - place) d (omega arith) (omega arith)) in
      none (get_or pairs k d).0
      (omega (arith, rise place k d from (omega arith), ap areaperil_of (get_or_default pairs place d e (omega arith))))
      (omega (arith, here))

-- a pair without rows has no record
no_record : (rows : Rows) (event : ℕ) (foot : List FootRow) (pair : ℕ × ℕ) → HasNone foot pair.0 → record_of rows event foot pair ≡ None
no_record rows event foot pair none = ap (record_with event pair) (bins_zero (chance_of foot rows.vulnerability pair.0 pair.1) 0 rows.damage_bin_dict (λ bin. chance_none rows foot pair.0 pair.1 bin none))

-- so pairs that are passed add no record
pub passed_records : (rows : Rows) (event : ℕ) (foot : List FootRow) (pairs : List (ℕ × ℕ)) (i j : ℕ) → i ≤ j → j ≤ length pairs → ((k : ℕ) (d : ℕ × ℕ) → i ≤ k → k < j → HasNone foot (get_or pairs k d).0)
    → filter_map (record_of rows event foot) (take i pairs) ≡ filter_map (record_of rows event foot) (take j pairs)
passed_records rows event foot pairs i j order within none = steps (j - i) (omega arith) (λ k d from below. none k d from (omega arith)) ∙ ap so_far (omega arith)
  where
    so_far : ℕ → List Cdf
    so_far n = filter_map (record_of rows event foot) (take n pairs)

    steps : (m : ℕ) → i + m ≤ length pairs → ((k : ℕ) (d : ℕ × ℕ) → i ≤ k → k < i + m → HasNone foot (get_or pairs k d).0) → so_far i ≡ so_far (i + m)
    steps zero most h = ap so_far (omega arith)
    steps (suc m) most h =
        steps m (omega arith) (λ k d from below. h k d from (omega arith))
        ∙ (sym (append-nil (so_far (i + m)))
        ∙ (ap (λ found. so_far (i + m) ++ cons_option found []) (sym (no_record rows event foot (get_or pairs (i + m) (0, 0)) (h (i + m) (0, 0) (omega arith) (omega arith))))
        ∙ (sym (filter_map_more (record_of rows event foot) pairs (i + m) (0, 0) (omega arith))
        ∙ ap so_far (omega arith))))
