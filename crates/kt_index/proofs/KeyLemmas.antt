-- A stable sort keeps the rows of a key, and what stands between two searches are the rows of a key.
use Rattle.std.proofs.Common.{◌≡◌, ℕ, ◌+◌, ◌-◌, ◌<◌, ◌≤◌, Bool, true, false, not, List, [], ◌∷◌, ◌++◌, length, get_or, take, drop, refl, ap, sym, ◌∙◌, nat_eq, arith, suc, leb, nat_le, append-nil, length-drop}
use Rattle.std.specs.Prelude.{◌&&◌}
use Rattle.std.specs.List.{filter}
use Rattle.std.specs.List.Sorted.{IsStableByKey, ties}
use Rattle.std.specs.Ordering.{nat_cmp, is_lt}
use Rattle.std.proofs.lemmas.List.{get_or-take, get_or-drop, take-append-drop, length-take, length-take-le, drop-drop}
use Rattle.std.proofs.lemmas.List.Elements.{filter-append, filter_agree, filter_passes, All-head, All-same}
use Rattle.std.proofs.lemmas.Bool.{ltb-true, ltb-false, leb-true, leb-false}
use Rattle.std.proofs.lemmas.Bool.Decides.{nat_tests}
use Rattle.std.proofs.lemmas.Grind.{common_steps}
use Rattle.kt_index.specs.KeyEnds.{KeyEnds}

-- numbers tie where they are equal
tie_is_eq : (m n : ℕ) → (not (is_lt (nat_cmp m n)) && not (is_lt (nat_cmp n m))) ≡ nat_eq n m
tie_is_eq m n = grind (arith, common_steps)

-- equality of numbers is the same by equal numbers
eq_same : (m n k : ℕ) → nat_eq n k ≡ true → nat_eq m n ≡ nat_eq m k
eq_same m n k is = grind (arith, common_steps)

-- a lower number is not in a range
range_below : (low top n : ℕ) → n < low → (nat_le low n && nat_le n top) ≡ false
range_below low top n h = grind (arith, nat_tests)

-- a higher number is not in it
range_above : (low top n : ℕ) → top < n → (nat_le low n && nat_le n top) ≡ false
range_above low top n h = grind (arith, nat_tests)

-- a number that is neither is in it
range_in : (low top n : ℕ) → low ≤ n → n ≤ top → (nat_le low n && nat_le n top) ≡ true
range_in low top n h k = grind (arith, nat_tests)

-- the range of one number
range_one : (wanted n : ℕ) → (nat_le wanted n && nat_le n wanted) ≡ nat_eq n wanted
range_one wanted n = grind (arith, nat_tests)

module _ {X : Type 0} where
  -- the first row that a filter keeps passes its test
  first_passes : (test : X → Bool) (rows : List X) (first : X) (rest : List X) → filter test rows ≡ first ∷ rest → test first ≡ true
  first_passes test rows first rest is = All-head (λ row. test row ≡ true) first rest (All-same (λ row. test row ≡ true) (first ∷ rest) (filter test rows) (sym is) (filter_passes test rows))

  -- a filter keeps all rows that pass
  filter-all : (test : X → Bool) (rows : List X) → ((k : ℕ) (d : X) → k < length rows → test (get_or rows k d) ≡ true) → filter test rows ≡ rows
  filter-all test [] h = refl
  filter-all test (row ∷ rows) h = rw (h 0 row (omega arith)) (ap (λ rest. row ∷ rest) (filter-all test rows (λ k d below. h (suc k) d (omega arith))))

  -- a filter keeps no row that fails
  filter-none : (test : X → Bool) (rows : List X) → ((k : ℕ) (d : X) → k < length rows → test (get_or rows k d) ≡ false) → filter test rows ≡ []
  filter-none test [] h = refl
  filter-none test (row ∷ rows) h = rw (h 0 row (omega arith)) (filter-none test rows (λ k d below. h (suc k) d (omega arith)))

module _ {X : Type 0} (key : X → ℕ) where
  -- the test of a key is that of a tie with a row of the key
  test_is_tie : (wanted : ℕ) (row : X) → nat_eq (key row) wanted ≡ true → (rows : List X) → filter (λ x. nat_eq (key x) wanted) rows ≡ filter (ties (λ x y. is_lt (nat_cmp (key x) (key y))) row) rows
  test_is_tie wanted row is rows = filter_agree _ _ (λ x. sym (eq_same (key x) (key row) wanted is) ∙ sym (tie_is_eq (key row) (key x))) rows

  -- a stable sort keeps the rows of each key in their order
  pub kept-from_stable : (rows sorted : List X) (wanted : ℕ) → IsStableByKey key nat_cmp rows sorted → filter (λ row. nat_eq (key row) wanted) sorted ≡ filter (λ row. nat_eq (key row) wanted) rows
  kept-from_stable rows sorted wanted stable = by (filter (λ row. nat_eq (key row) wanted) sorted) (filter (λ row. nat_eq (key row) wanted) rows) refl refl
    where
      at : (row : X) → nat_eq (key row) wanted ≡ true → filter (λ x. nat_eq (key x) wanted) sorted ≡ filter (λ x. nat_eq (key x) wanted) rows
      at row is = test_is_tie wanted row is sorted ∙ (stable row ∙ sym (test_is_tie wanted row is rows))

      by : (some other : List X) → filter (λ row. nat_eq (key row) wanted) sorted ≡ some → filter (λ row. nat_eq (key row) wanted) rows ≡ other → filter (λ row. nat_eq (key row) wanted) sorted ≡ filter (λ row. nat_eq (key row) wanted) rows
      by [] [] e f = e ∙ sym f
      by (row ∷ rest) other e f = at row (first_passes (λ x. nat_eq (key x) wanted) sorted row rest e)
      by [] (row ∷ rest) e f = at row (first_passes (λ x. nat_eq (key x) wanted) rows row rest f)

  -- the rows below a range end before those up to its top do
  pub starts_first : (rows : List X) (low top start last : ℕ) → low ≤ top → KeyEnds key rows low top start last → start ≤ last
  starts_first [] low top start last ordered bounds = let h = bounds.start_within in omega arith
  starts_first (row ∷ rows) low top start last ordered bounds = by (leb start last) refl
    where
      by : (b : Bool) → leb start last ≡ b → start ≤ last
      by true e = leb-true start last e
      by false e =
          let after : last < start = leb-false start last e in
          let within = bounds.start_within in
          let less = ltb-true (key (get_or (row ∷ rows) last row)) low (bounds.below.0 last row (omega arith) after) in
          let more = leb-false (key (get_or (row ∷ rows) last row)) top (bounds.upto.1 last row (omega arith) (omega arith)) in
          absurd (omega arith)

  -- the rows before the first end have lower keys
  front : (rows : List X) (low top start last : ℕ) → low ≤ top → KeyEnds key rows low top start last → filter (λ x. nat_le low (key x) && nat_le (key x) top) (take start rows) ≡ []
  front rows low top start last ordered bounds = filter-none (λ x. nat_le low (key x) && nat_le (key x) top) (take start rows) (λ k d h. fails k d h)
    where
      fails : (k : ℕ) (d : X) → k < length (take start rows) → (nat_le low (key (get_or (take start rows) k d)) && nat_le (key (get_or (take start rows) k d)) top) ≡ false
      fails k d h =
          let short : k < start = omega (arith, length-take-le start rows bounds.start_within) in
          rw (get_or-take start rows k d short) (range_below low top (key (get_or rows k d)) (ltb-true _ _ (bounds.below.0 k d (omega arith) short)))

  -- the rows between the ends have the key
  middle : (rows : List X) (low top start last : ℕ) → low ≤ top → KeyEnds key rows low top start last → filter (λ x. nat_le low (key x) && nat_le (key x) top) (take (last - start) (drop start rows)) ≡ take (last - start) (drop start rows)
  middle rows low top start last ordered bounds = filter-all (λ x. nat_le low (key x) && nat_le (key x) top) (take (last - start) (drop start rows)) (λ k d h. passes k d h)
    where
      passes : (k : ℕ) (d : X) → k < length (take (last - start) (drop start rows)) → (nat_le low (key (get_or (take (last - start) (drop start rows)) k d)) && nat_le (key (get_or (take (last - start) (drop start rows)) k d)) top) ≡ true
      passes k d h =
          let within = bounds.last_within in
          let left = length-drop start rows in
          let short : k < last - start = omega (arith, length-take (last - start) (drop start rows)) in
          rw (get_or-take (last - start) (drop start rows) k d short, get_or-drop start rows k d)
          (range_in low top (key (get_or rows (start + k) d)) (ltb-false _ _ (bounds.below.1 (start + k) d (omega arith) (omega arith))) (leb-true _ _ (bounds.upto.0 (start + k) d (omega arith) (omega arith))))

  -- the rows behind the second end have higher keys
  back : (rows : List X) (low top start last : ℕ) → low ≤ top → KeyEnds key rows low top start last → filter (λ x. nat_le low (key x) && nat_le (key x) top) (drop last rows) ≡ []
  back rows low top start last ordered bounds = filter-none (λ x. nat_le low (key x) && nat_le (key x) top) (drop last rows) (λ k d h. fails k d h)
    where
      fails : (k : ℕ) (d : X) → k < length (drop last rows) → (nat_le low (key (get_or (drop last rows) k d)) && nat_le (key (get_or (drop last rows) k d)) top) ≡ false
      fails k d h =
          let short : last + k < length rows = omega (arith, length-drop last rows) in
          rw (get_or-drop last rows k d) (range_above low top (key (get_or rows (last + k) d)) (leb-false _ _ (bounds.upto.1 (last + k) d (omega arith) short)))

  -- what stands between the two ends are the rows of the range
  pub between_is : (rows : List X) (low top start last : ℕ) → low ≤ top → KeyEnds key rows low top start last → take (last - start) (drop start rows) ≡ filter (λ x. nat_le low (key x) && nat_le (key x) top) rows
  between_is rows low top start last ordered bounds =
      let test = λ (x : X). nat_le low (key x) && nat_le (key x) top in
      let first = starts_first rows low top start last ordered bounds in
      let mid = take (last - start) (drop start rows) in
      let rest : drop (last - start) (drop start rows) ≡ drop last rows = rest_is rows start last first in
      let behind : filter test (drop start rows) ≡ mid =
      ap (filter test) (sym (take-append-drop (last - start) (drop start rows)))
      ∙ (filter-append test mid (drop (last - start) (drop start rows))
      ∙ (ap (λ end. filter test mid ++ filter test end) rest
      ∙ (ap (λ end. filter test mid ++ end) (back rows low top start last ordered bounds)
      ∙ (append-nil (filter test mid) ∙ middle rows low top start last ordered bounds)))) in
      sym (ap (filter test) (sym (take-append-drop start rows))
      ∙ (filter-append test (take start rows) (drop start rows)
      ∙ (ap (λ before. before ++ filter test (drop start rows)) (front rows low top start last ordered bounds) ∙ behind)))
    where
      rest_is : (rows : List X) (start last : ℕ) → start ≤ last → drop (last - start) (drop start rows) ≡ drop last rows
      rest_is rows start last h = drop-drop (last - start) start rows ∙ ap (λ n. drop n rows) (omega arith)

  -- the range of one key
  pub one_key : (wanted : ℕ) (rows : List X) → filter (λ x. nat_le wanted (key x) && nat_le (key x) wanted) rows ≡ filter (λ x. nat_eq (key x) wanted) rows
  one_key wanted rows = filter_agree _ _ (λ x. range_one wanted (key x)) rows
