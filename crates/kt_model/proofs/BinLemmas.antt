-- The bins of a distribution, as far as a loop has come, and that they are such as a stream may have.
use Rattle.std.proofs.Common.{◌≡◌, ℕ, ◌+◌, ◌-◌, ◌<◌, ◌≤◌, Bool, true, false, cond, List, [], ◌∷◌, ◌++◌, length, get_or, drop, refl, ap, sym, subst, ◌∙◌, nat_eq, arith, append-nil, append_assoc}
use Rattle.std.specs.Prelude.{All}
use Rattle.std.specs.List.{sum_by}
use Rattle.std.proofs.lemmas.Bool.{eqb-true}
use Rattle.std.proofs.lemmas.Bool.Decides.{nat_tests}
use Rattle.std.proofs.lemmas.List.{drop_more, get_or-drop, length-drop}
use Rattle.std.proofs.lemmas.List.Elements.{All-head, All-tail}
use Rattle.std.proofs.lemmas.List.Sums.{get_or-le-sum_by, sum_by-le, sum_by-cons}
use Rattle.kt_rec.specs.declared.hazard.DamageBin.{DamageBin}
use Rattle.kt_stream.specs.declared.entry.Bin.{Bin}
use Rattle.kt_stream.specs.Bins.{AreBins, lowest}
use Rattle.kt_model.specs.Distribution.{bins_behind}
use Rattle.kt_model.specs.Scratch.{AreChances}

-- what is above 0 is not 0
not_zero : (n : ℕ) → 0 < n → nat_eq n 0 ≡ false
not_zero n h = grind (arith, nat_tests)

-- what is not 0 is above 0
above_zero : (n : ℕ) → nat_eq n 0 ≡ false → 0 < n
above_zero n h = grind (arith, nat_tests)

-- 0 is 0
zero_eq : (n : ℕ) → n ≡ 0 → nat_eq n 0 ≡ true
zero_eq n h = grind (arith, nat_tests)

module _ (chance : ℕ → ℕ) where
  -- the chance of a row of the dictionary
  abbrev of_row : DamageBin → ℕ
  of_row row = chance row.bin_index

  -- rows without a chance have no bins
  bins_none : (before : ℕ) (rows : List DamageBin) → sum_by of_row rows ≡ 0 → bins_behind chance before rows ≡ []
  bins_none before [] none = refl
  bins_none before (row ∷ rows) none = ap (λ b. cond b [] (record { prob_to = before + chance row.bin_index; mean = row.interpolation } ∷ bins_behind chance (before + chance row.bin_index) rows)) (zero_eq (sum_by of_row (row ∷ rows)) none)

  -- where no bin has a chance, there are no bins
  pub bins_zero : (before : ℕ) (rows : List DamageBin) → ((bin : ℕ) → chance bin ≡ 0) → bins_behind chance before rows ≡ []
  bins_zero before rows zeros =
      let low : All (λ row. of_row row ≤ 0) rows = λ k d below. (let e = zeros (get_or rows k d).bin_index in omega arith) in
      let sum = sum_by-le of_row 0 rows low in
      bins_none before rows (omega arith)

  -- rows with a chance have a bin of the first
  bins_some : (before : ℕ) (row : DamageBin) (rows : List DamageBin) → 0 < sum_by of_row (row ∷ rows) → bins_behind chance before (row ∷ rows) ≡ record { prob_to = before + chance row.bin_index; mean = row.interpolation } ∷ bins_behind chance (before + chance row.bin_index) rows
  bins_some before row rows some = ap (λ b. cond b [] (record { prob_to = before + chance row.bin_index; mean = row.interpolation } ∷ bins_behind chance (before + chance row.bin_index) rows)) (not_zero (sum_by of_row (row ∷ rows)) some)

  module _ (chances : List ℕ) (rows : List DamageBin) (are : AreChances chance chances rows) (same : length chances ≡ length rows) (none : DamageBin) where
    -- the rows from one on have a chance where a later one has
    some_behind : (k last : ℕ) → k ≤ last → last < length rows → 0 < get_or chances last 0 → 0 < sum_by of_row (drop k rows)
    some_behind k last before within some =
        let short : last - k < length (drop k rows) = omega (arith, length-drop k rows) in
        let le = get_or-le-sum_by of_row (drop k rows) (last - k) none short in
        let there : of_row (get_or (drop k rows) (last - k) none) ≡ get_or chances last 0 = ap of_row (get_or-drop k rows (last - k) none ∙ ap (λ n. get_or rows n none) (omega arith)) ∙ are last none within in
        omega arith

    -- one more bin
    pub bins_more : (bins all : List Bin) (k last before : ℕ) → k ≤ last → last < length rows → 0 < get_or chances last 0 → bins ++ bins_behind chance before (drop k rows) ≡ all → (bins ++ record { prob_to = before + get_or chances k 0; mean = (get_or rows k none).interpolation } ∷ []) ++ bins_behind chance (before + get_or chances k 0) (drop (k + 1) rows) ≡ all
    bins_more bins all k last before order within some was =
        let h : k < length rows = omega arith in
        let split = drop_more rows k none h in
        let here : chance (get_or rows k none).bin_index ≡ get_or chances k 0 = are k none h in
        append_assoc bins _ _
        ∙ (ap (λ n. bins ++ (record { prob_to = before + n; mean = (get_or rows k none).interpolation } ∷ bins_behind chance (before + n) (drop (k + 1) rows))) (sym here)
        ∙ (ap (λ rest. bins ++ rest) (sym (ap (bins_behind chance before) split ∙ bins_some before (get_or rows k none) (drop (k + 1) rows) (subst (λ list. 0 < sum_by of_row list) split (some_behind k last order within some))))
        ∙ was))

    -- no bin behind the last chance
    pub bins_done : (bins all : List Bin) (count before : ℕ) → ((k : ℕ) → count ≤ k → get_or chances k 0 ≡ 0) → bins ++ bins_behind chance before (drop count rows) ≡ all → bins ≡ all
    bins_done bins all count before zeros was =
        let low : All (λ row. of_row row ≤ 0) (drop count rows) = λ k d below. fails k d below in
        let sum = sum_by-le of_row 0 (drop count rows) low in
        sym (ap (λ rest. bins ++ rest) (bins_none before (drop count rows) (omega arith)) ∙ append-nil bins) ∙ was
      where
        fails : (k : ℕ) (d : DamageBin) → k < length (drop count rows) → of_row (get_or (drop count rows) k d) ≤ 0
        fails k d below =
            let within : count + k < length rows = omega (arith, length-drop count rows) in
            let there : of_row (get_or (drop count rows) k d) ≡ get_or chances (count + k) 0 = ap of_row (get_or-drop count rows k d) ∙ are (count + k) d within in
            let nothing = zeros (count + k) (omega arith) in
            omega arith

  -- a row without bins behind it has no chance behind it
  none_from_bins : (before : ℕ) (rows : List DamageBin) → bins_behind chance before rows ≡ [] → sum_by of_row rows ≡ 0
  none_from_bins before [] h = refl
  none_from_bins before (row ∷ rows) h = by (nat_eq (sum_by of_row (row ∷ rows)) 0) refl h
    where
      by : (b : Bool) → nat_eq (sum_by of_row (row ∷ rows)) 0 ≡ b → cond b [] (record { prob_to = before + chance row.bin_index; mean = row.interpolation } ∷ bins_behind chance (before + chance row.bin_index) rows) ≡ [] → sum_by of_row (row ∷ rows) ≡ 0
      by true e g = eqb-true _ _ e
      by false e g = cc

  -- the bins of a distribution are such as a stream may have
  pub bins_fit : (before : ℕ) (rows : List DamageBin) → before + sum_by of_row rows ≤ 1002001000000 → All (λ row. row.interpolation ≤ 1000000) rows → AreBins before (bins_behind chance before rows)
  bins_fit before [] fits means = tt
  bins_fit before (row ∷ rows) fits means = by (nat_eq (sum_by of_row (row ∷ rows)) 0) refl (bins_fit (before + chance row.bin_index) rows (let e = sum_by-cons of_row row rows in omega arith) (All-tail (λ x. x.interpolation ≤ 1000000) row rows means))
    where
      low : (list : List Bin) → bins_behind chance (before + chance row.bin_index) rows ≡ list → 0 < sum_by of_row (row ∷ rows) → lowest (length list) before ≤ before + chance row.bin_index
      low [] is some = (let e = none_from_bins (before + chance row.bin_index) rows is in let s = sum_by-cons of_row row rows in omega arith)
      low (b ∷ list) is some = omega arith

      by : (b : Bool) → nat_eq (sum_by of_row (row ∷ rows)) 0 ≡ b → AreBins (before + chance row.bin_index) (bins_behind chance (before + chance row.bin_index) rows) → AreBins before (cond b [] (record { prob_to = before + chance row.bin_index; mean = row.interpolation } ∷ bins_behind chance (before + chance row.bin_index) rows))
      by true e rest = tt
      by false e rest = (low (bins_behind chance (before + chance row.bin_index) rows) refl (above_zero (sum_by of_row (row ∷ rows)) e), (let s = sum_by-cons of_row row rows in omega arith), All-head (λ x. x.interpolation ≤ 1000000) row rows means, rest)

  -- there are at most as many bins as in the dictionary
  pub bins_few : (before : ℕ) (rows : List DamageBin) → length (bins_behind chance before rows) ≤ length rows
  bins_few before [] = omega arith
  bins_few before (row ∷ rows) = by (nat_eq (sum_by of_row (row ∷ rows)) 0) (bins_few (before + chance row.bin_index) rows)
    where
      by : (b : Bool) → length (bins_behind chance (before + chance row.bin_index) rows) ≤ length rows → length (cond b [] (record { prob_to = before + chance row.bin_index; mean = row.interpolation } ∷ bins_behind chance (before + chance row.bin_index) rows)) ≤ length (row ∷ rows)
      by true rest = omega arith
      by false rest = omega arith
