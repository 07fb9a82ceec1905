-- The amounts of rows: of the mean, of all samples, of one sample and of a period.
use Rattle.std.proofs.Common.{◌≡◌, ◌≢◌, ℕ, zero, suc, ◌+◌, ◌-◌, set, subst, ◌<◌, ◌≤◌, List, [], ◌∷◌, ◌++◌, length, map, get_or, take, drop, take-append-drop, arith, refl, sym, ap, ◌∙◌, cond, append_assoc, append-nil, Some, None, Option}
use Rattle.std.specs.Prelude.{Bool, true, false, ◌&&◌, not, nat_eq, All, pos, sum}
use Rattle.std.specs.List.{filter}
use Rattle.std.specs.Ordering.{int_eq}
use Rattle.std.proofs.lemmas.Bool.Decides.{nat_tests, Decides-eqb}
use Rattle.std.proofs.lemmas.List.{map-append, take_more, get_or-set_same, get_or-set_other}
use Rattle.std.proofs.lemmas.List.Sums.{sum_by-append}
use Rattle.std.proofs.lemmas.List.Elements.{filter-append, All-get_or}
use Rattle.kt_rec.specs.declared.perspective.CellKey.{CellKey}
use Rattle.kt_cell.specs.declared.cell.Cell.{Cell}
use Rattle.kt_period_cells.specs.declared.row_key.RowKey.{RowKey}
use Rattle.kt_period_cells.specs.declared.row.Row.{Row}
use Rattle.kt_period_cells.specs.declared.group.SummaryRow.{SummaryRow}
use Rattle.kt_cell.specs.Sets.{same_bool, is_mean, of_kind}
use Rattle.kt_cell.specs.Amounts.{amount_in, amount_or_none, amounts_of, of_sample, of_period}
use Rattle.kt_period_cells.specs.RowCells.{SampleCells, with_place, placed, cells_of, cell_in, IsRising}
use Rattle.kt_period_cells.specs.Rows.{sidx_of, key_in}
use Rattle.kt_period_cells.specs.SummaryRows.{cell_amount, cell_amounts, row_at, entries_in, place_entries}
use Rattle.kt_cell.specs.Standing.{has_total}
use Rattle.kt_cell.specs.SameKeys.{pos_same}
use Rattle.kt_period_cells.proofs.PlacedCells.{placed_get, placed_low}
use Rattle.kt_period_cells.proofs.RowCells.{cell_absent}
use Rattle.kt_period_cells.proofs.SetRows.{row_is, row_past, entries}

-- an entry
abbrev Entry : Type 0
Entry = CellKey × Cell

-- ---- one more

-- the amounts of cells and others
cells_append : (maxima mean : Bool) (xs ys : SampleCells) → cell_amounts maxima mean (xs ++ ys) ≡ cell_amounts maxima mean xs ++ cell_amounts maxima mean ys
cells_append maxima mean xs ys =
    ap (map (λ (one : ℕ × Cell). amount_in maxima (Some one.1))) (filter-append (λ one. same_bool (nat_eq one.0 0) mean) xs ys)
    ∙ map-append (λ (one : ℕ × Cell). amount_in maxima (Some one.1)) (filter (λ one. same_bool (nat_eq one.0 0) mean) xs) (filter (λ one. same_bool (nat_eq one.0 0) mean) ys)

-- the amounts of one cell
one_cell : (maxima mean : Bool) (one : ℕ × Cell) → cell_amounts maxima mean (one ∷ []) ≡ cond (same_bool (nat_eq one.0 0) mean) (amount_in maxima (Some one.1) ∷ []) []
one_cell maxima mean one = by_test (same_bool (nat_eq one.0 0) mean)
  where
    by_test : (b : Bool) → map (λ (one : ℕ × Cell). amount_in maxima (Some one.1)) (cond b (one ∷ []) []) ≡ cond b (amount_in maxima (Some one.1) ∷ []) []
    by_test true = refl
    by_test false = refl

-- the cells of places and of others
placed_append : (k : ℕ) (xs ys : List Cell) → placed k (xs ++ ys) ≡ placed k xs ++ placed (k + length xs) ys
placed_append k [] ys = let same : k ≡ k + 0 = omega arith in ap (λ n. placed n ys) same
placed_append k (x ∷ xs) ys = by_test (nat_eq x.total 0) (placed_append (suc k) xs ys ∙ ap (λ n. placed (suc k) xs ++ placed n ys) same)
  where
    same : suc k + length xs ≡ k + suc (length xs)
    same = omega arith

    by_test : (b : Bool) → placed (suc k) (xs ++ ys) ≡ placed (suc k) xs ++ placed (k + suc (length xs)) ys → with_place b k x (placed (suc k) (xs ++ ys)) ≡ with_place b k x (placed (suc k) xs) ++ placed (k + suc (length xs)) ys
    by_test true later = later
    by_test false later = ap (λ (rest : SampleCells). (k, x) ∷ rest) later

-- the amounts of one place
one_place : (maxima mean : Bool) (s : ℕ) (x : Cell) → cell_amounts maxima mean (placed s (x ∷ [])) ≡ cond (has_total x && same_bool (nat_eq s 0) mean) (amount_in maxima (Some x) ∷ []) []
one_place maxima mean s x = by_test (nat_eq x.total 0)
  where
    by_test : (b : Bool) → cell_amounts maxima mean (with_place b s x []) ≡ cond (not b && same_bool (nat_eq s 0) mean) (amount_in maxima (Some x) ∷ []) []
    by_test true = refl
    by_test false = one_cell maxima mean (s, x)

-- the amounts of one place of a sample
sample_place : (maxima : Bool) (s : ℕ) (x : Cell) → 1 ≤ s → cell_amounts maxima false (placed s (x ∷ [])) ≡ cell_amount maxima x
sample_place maxima s x some =
    let above : nat_eq s 0 ≡ false = grind (arith, nat_tests) in
    one_place maxima false s x ∙ ap (λ b. cond (has_total x && same_bool b false) (amount_in maxima (Some x) ∷ []) []) above ∙ by_test (has_total x)
  where
    by_test : (b : Bool) → cond (b && true) (amount_in maxima (Some x) ∷ []) [] ≡ cond b (amount_in maxima (Some x) ∷ []) []
    by_test true = refl
    by_test false = refl

-- the amounts of one place more, from that of sample 1 on
pub samples_more : (maxima : Bool) (cs : List Cell) (i : ℕ) (d : Cell) → i < length cs →
    cell_amounts maxima false (placed 1 (take (i + 1) cs)) ≡ cell_amounts maxima false (placed 1 (take i cs)) ++ cell_amount maxima (get_or cs i d)
samples_more maxima cs i d within =
    ap (λ xs. cell_amounts maxima false (placed 1 xs)) (take_more cs i d within)
    ∙ ap (cell_amounts maxima false) (placed_append 1 (take i cs) (get_or cs i d ∷ []))
    ∙ cells_append maxima false (placed 1 (take i cs)) (placed (1 + length (take i cs)) (get_or cs i d ∷ []))
    ∙ ap (λ more. cell_amounts maxima false (placed 1 (take i cs)) ++ more) (sample_place maxima (1 + length (take i cs)) (get_or cs i d) (omega arith))

-- the same behind others
pub written_more : (maxima : Bool) (cs : List Cell) (i : ℕ) (d : Cell) (base old new : List ℕ) → i < length cs → old ≡ base ++ cell_amounts maxima false (placed 1 (take i cs)) →
    new ≡ old ++ cell_amount maxima (get_or cs i d) → new ≡ base ++ cell_amounts maxima false (placed 1 (take (i + 1) cs))
written_more maxima cs i d base old new within old_is new_is =
    new_is ∙ ap (λ xs. xs ++ cell_amount maxima (get_or cs i d)) old_is
    ∙ append_assoc base (cell_amounts maxima false (placed 1 (take i cs))) (cell_amount maxima (get_or cs i d))
    ∙ ap (λ xs. base ++ xs) (sym (samples_more maxima cs i d within))

-- the sum of an amount that counts, or of none
sum_if : (b : Bool) (amount : ℕ) → sum (cond b (amount ∷ []) []) ≡ cond b amount 0
sum_if true amount = omega arith
sum_if false amount = refl

-- their sum
pub placed_summed : (maxima : Bool) (cs : List Cell) (i : ℕ) (d : Cell) (total amount : ℕ) → i < length cs → total ≡ sum (cell_amounts maxima false (placed 1 (take i cs))) → amount ≡ cond (has_total (get_or cs i d)) (amount_in maxima (Some (get_or cs i d))) 0 →
    total + amount ≡ sum (cell_amounts maxima false (placed 1 (take (i + 1) cs)))
placed_summed maxima cs i d total amount within is more =
    let all : sum (cell_amounts maxima false (placed 1 (take (i + 1) cs))) ≡ sum (cell_amounts maxima false (placed 1 (take i cs))) + sum (cell_amount maxima (get_or cs i d)) =
    ap sum (samples_more maxima cs i d within) ∙ sum_by-append (λ (x : ℕ). x) (cell_amounts maxima false (placed 1 (take i cs))) (cell_amount maxima (get_or cs i d)) in
    omega (arith, is, more, all, sum_if (has_total (get_or cs i d)) (amount_in maxima (Some (get_or cs i d))))

-- the sum of the amounts of one listed cell more
pub listed_summed : (maxima : Bool) (cells : SampleCells) (i : ℕ) (d : ℕ × Cell) (total amount : ℕ) → i < length cells → total ≡ sum (cell_amounts maxima false (take i cells)) → amount ≡ cond (not (nat_eq (get_or cells i d).0 0)) (amount_in maxima (Some (get_or cells i d).1)) 0 →
    total + amount ≡ sum (cell_amounts maxima false (take (i + 1) cells))
listed_summed maxima cells i d total amount within is more =
    let all : sum (cell_amounts maxima false (take (i + 1) cells)) ≡ sum (cell_amounts maxima false (take i cells)) + sum (cell_amounts maxima false (get_or cells i d ∷ [])) =
    ap (λ xs. sum (cell_amounts maxima false xs)) (take_more cells i d within) ∙ ap sum (cells_append maxima false (take i cells) (get_or cells i d ∷ []))
    ∙ sum_by-append (λ (x : ℕ). x) (cell_amounts maxima false (take i cells)) (cell_amounts maxima false (get_or cells i d ∷ [])) in
    let one : sum (cell_amounts maxima false (get_or cells i d ∷ [])) ≡ cond (not (nat_eq (get_or cells i d).0 0)) (amount_in maxima (Some (get_or cells i d).1)) 0 =
    ap sum (one_cell maxima false (get_or cells i d)) ∙ ap (λ b. sum (cond b (amount_in maxima (Some (get_or cells i d).1) ∷ []) [])) (turned (nat_eq (get_or cells i d).0 0)) ∙ sum_if (not (nat_eq (get_or cells i d).0 0)) (amount_in maxima (Some (get_or cells i d).1)) in
    omega (arith, is, more, all, one)
  where
    turned : (b : Bool) → same_bool b false ≡ not b
    turned true = refl
    turned false = refl

-- places of samples have no amount of the mean
no_mean : (maxima : Bool) (k : ℕ) (cs : List Cell) → 1 ≤ k → cell_amounts maxima true (placed k cs) ≡ []
no_mean maxima k [] some = refl
no_mean maxima k (x ∷ cs) some = by_test (nat_eq x.total 0) (no_mean maxima (suc k) cs (omega arith))
  where
    is_mean_cell : ℕ × Cell → Bool
    is_mean_cell one = same_bool (nat_eq one.0 0) true

    by_test : (b : Bool) → cell_amounts maxima true (placed (suc k) cs) ≡ [] → cell_amounts maxima true (with_place b k x (placed (suc k) cs)) ≡ []
    by_test true later = later
    by_test false later =
        let above : nat_eq k 0 ≡ false = grind (arith, nat_tests) in
        ap (λ b. map (λ (one : ℕ × Cell). amount_in maxima (Some one.1)) (cond (same_bool b true) ((k, x) ∷ filter is_mean_cell (placed (suc k) cs)) (filter is_mean_cell (placed (suc k) cs)))) above ∙ later

-- the amount of the mean among places is that of the first
pub mean_placed : (maxima : Bool) (cs : List Cell) → cell_amounts maxima true (placed 0 cs) ≡ amount_or_none maxima (cell_in (placed 0 cs) 0)
mean_placed maxima [] = refl
mean_placed maxima (x ∷ cs) = by_test (nat_eq x.total 0)
  where
    by_test : (b : Bool) → cell_amounts maxima true (with_place b 0 x (placed 1 cs)) ≡ amount_or_none maxima (cell_in (with_place b 0 x (placed 1 cs)) 0)
    by_test true = no_mean maxima 1 cs (omega arith) ∙ sym (ap (amount_or_none maxima) (placed_low 1 cs 0 (omega arith)))
    by_test false = ap (λ xs. amount_in maxima (Some x) ∷ xs) (no_mean maxima 1 cs (omega arith))

-- those of the samples are those of the others
pub samples_placed : (maxima : Bool) (cs : List Cell) → 1 ≤ length cs → cell_amounts maxima false (placed 0 cs) ≡ cell_amounts maxima false (placed 1 (drop 1 cs))
samples_placed maxima [] some = absurd (omega (arith, some))
samples_placed maxima (x ∷ cs) some = by_test (nat_eq x.total 0)
  where
    by_test : (b : Bool) → cell_amounts maxima false (with_place b 0 x (placed 1 cs)) ≡ cell_amounts maxima false (placed 1 cs)
    by_test true = refl
    by_test false = refl

-- the amount of a place is that of its sample
pub place_amounts : (maxima : Bool) (cs : List Cell) (s : ℕ) (d : Cell) → s < length cs → cell_amount maxima (get_or cs s d) ≡ amount_or_none maxima (cell_in (placed 0 cs) s)
place_amounts maxima cs s d within = by_test (nat_eq x.total 0) ∙ ap (amount_or_none maxima) (sym (placed_get 0 cs s d s (omega arith) within))
  where
    x : Cell
    x = get_or cs s d

    by_test : (b : Bool) → cond (not b) (amount_in maxima (Some x) ∷ []) [] ≡ amount_or_none maxima (cond b None (Some x))
    by_test true = refl
    by_test false = refl

-- ---- the entries of a row

-- the mean has the sample 0
mean_is_zero : (s : ℕ) → is_mean (sidx_of s) ≡ nat_eq s 0
mean_is_zero zero = refl
mean_is_zero (suc k) = let above : nat_eq (suc k) 0 ≡ false = grind (arith, nat_tests) in sym above

-- the amounts of a row's entries of a kind
pub kind_of_row : (maxima mean : Bool) (row : RowKey) (cells : SampleCells) → amounts_of maxima (of_kind mean) (entries row cells) ≡ cell_amounts maxima mean cells
kind_of_row maxima mean row [] = refl
kind_of_row maxima mean row (one ∷ cells) = by_test (same_bool (is_mean (sidx_of one.0)) mean) (same_bool (nat_eq one.0 0) mean) (ap (λ b. same_bool b mean) (mean_is_zero one.0)) (kind_of_row maxima mean row cells)
  where
    here : Entry
    here = (key_in row one.0, one.1)

    by_test : (b c : Bool) → b ≡ c → amounts_of maxima (of_kind mean) (entries row cells) ≡ cell_amounts maxima mean cells →
        map (λ (e : Entry). amount_in maxima (Some e.1)) (cond b (here ∷ filter (of_kind mean) (entries row cells)) (filter (of_kind mean) (entries row cells)))
        ≡ map (λ (one : ℕ × Cell). amount_in maxima (Some one.1)) (cond c (one ∷ filter (λ one. same_bool (nat_eq one.0 0) mean) cells) (filter (λ one. same_bool (nat_eq one.0 0) mean) cells))
    by_test true true same later = ap (λ more. amount_in maxima (Some one.1) ∷ more) later
    by_test false false same later = later
    by_test true false same later = cc
    by_test false true same later = cc

-- a sample's sidx
sample_is : (s k : ℕ) → int_eq (sidx_of s) (pos (suc k)) ≡ nat_eq (suc k) s
sample_is zero k = let apart : nat_eq (suc k) 0 ≡ false = grind (arith, nat_tests) in sym apart
sample_is (suc s) k = pos_same (suc s) (suc k) ∙ turned (suc s) (suc k)
  where
    turned : (a b : ℕ) → nat_eq a b ≡ nat_eq b a
    turned a b = grind (arith, nat_tests)

-- the amounts of a row's entries of one sample
pub sample_of_row : (maxima : Bool) (row : RowKey) (sample : ℕ) → 1 ≤ sample → (cells : SampleCells) → IsRising cells → amounts_of maxima (of_sample sample) (entries row cells) ≡ amount_or_none maxima (cell_in cells sample)
sample_of_row maxima row zero some cells rising = absurd (omega (arith, some))
sample_of_row maxima row (suc k) some [] rising = refl
sample_of_row maxima row (suc k) some (one ∷ cells) rising =
    by_test (int_eq (sidx_of one.0) (pos (suc k))) (nat_eq (suc k) one.0) (sample_is one.0 k) refl (sample_of_row maxima row (suc k) some cells (λ i j less within. rising (suc i) (suc j) (omega (arith, less)) (omega (arith, within))))
  where
    here : Entry
    here = (key_in row one.0, one.1)

    absent : nat_eq (suc k) one.0 ≡ true → cell_in cells (suc k) ≡ None
    absent same = cell_absent cells (suc k) (λ j less is. let at : suc k ≡ one.0 = (Decides-eqb (suc k) one.0).0 same in omega (arith, rising 0 (suc j) (omega arith) (omega (arith, less)), is, at))

    by_test : (b c : Bool) → b ≡ c → nat_eq (suc k) one.0 ≡ c → amounts_of maxima (of_sample (suc k)) (entries row cells) ≡ amount_or_none maxima (cell_in cells (suc k)) →
        map (λ (e : Entry). amount_in maxima (Some e.1)) (cond b (here ∷ filter (of_sample (suc k)) (entries row cells)) (filter (of_sample (suc k)) (entries row cells))) ≡ amount_or_none maxima (cond c (Some one.1) (cell_in cells (suc k)))
    by_test true true same is later = ap (λ more. amount_in maxima (Some one.1) ∷ more) (later ∙ ap (amount_or_none maxima) (absent is))
    by_test false false same is later = later
    by_test true false same is later = cc
    by_test false true same is later = cc

-- the amounts of a row's entries of a period: all samples, or none
period_amounts : (maxima : Bool) (row : RowKey) (t : ℕ) (b : Bool) → nat_eq t row.period ≡ b → (cells : SampleCells) → amounts_of maxima (of_period t) (entries row cells) ≡ cond b (cell_amounts maxima false cells) []
period_amounts maxima row t true is [] = refl
period_amounts maxima row t false is [] = refl
period_amounts maxima row t b is (one ∷ cells) = by_test b is (same_bool (is_mean (sidx_of one.0)) false) (same_bool (nat_eq one.0 0) false) (ap (λ c. same_bool c false) (mean_is_zero one.0)) (period_amounts maxima row t b is cells)
  where
    here : Entry
    here = (key_in row one.0, one.1)

    by_case : (b c : Bool) → amounts_of maxima (of_period t) (entries row cells) ≡ cond b (cell_amounts maxima false cells) [] →
        map (λ (e : Entry). amount_in maxima (Some e.1)) (cond (c && b) (here ∷ filter (of_period t) (entries row cells)) (filter (of_period t) (entries row cells)))
        ≡ cond b (map (λ (one : ℕ × Cell). amount_in maxima (Some one.1)) (cond c (one ∷ filter (λ one. same_bool (nat_eq one.0 0) false) cells) (filter (λ one. same_bool (nat_eq one.0 0) false) cells))) []
    by_case true true later = ap (λ more. amount_in maxima (Some one.1) ∷ more) later
    by_case true false later = later
    by_case false true later = later
    by_case false false later = later

    by_test : (b : Bool) → nat_eq t row.period ≡ b → (c d : Bool) → c ≡ d → amounts_of maxima (of_period t) (entries row cells) ≡ cond b (cell_amounts maxima false cells) [] →
        map (λ (e : Entry). amount_in maxima (Some e.1)) (cond (c && nat_eq t row.period) (here ∷ filter (of_period t) (entries row cells)) (filter (of_period t) (entries row cells)))
        ≡ cond b (map (λ (one : ℕ × Cell). amount_in maxima (Some one.1)) (cond d (one ∷ filter (λ one. same_bool (nat_eq one.0 0) false) cells) (filter (λ one. same_bool (nat_eq one.0 0) false) cells))) []
    by_test b is c d same later = rw (is, same) (by_case b d later)

-- their sum
pub period_of_row : (maxima : Bool) (row : RowKey) (t : ℕ) (cells : SampleCells) → sum (amounts_of maxima (of_period t) (entries row cells)) ≡ cond (nat_eq t row.period) (sum (cell_amounts maxima false cells)) 0
period_of_row maxima row t cells = ap sum (period_amounts maxima row t (nat_eq t row.period) refl cells) ∙ by_test (nat_eq t row.period)
  where
    by_test : (b : Bool) → sum (cond b (cell_amounts maxima false cells) []) ≡ cond b (sum (cell_amounts maxima false cells)) 0
    by_test true = refl
    by_test false = refl

-- ---- the rows at places

-- the amounts of entries and others
pub amounts_append : (maxima : Bool) (test : Entry → Bool) (xs ys : List Entry) → amounts_of maxima test (xs ++ ys) ≡ amounts_of maxima test xs ++ amounts_of maxima test ys
amounts_append maxima test xs ys =
    ap (map (λ (e : Entry). amount_in maxima (Some e.1))) (filter-append test xs ys) ∙ map-append (λ (e : Entry). amount_in maxima (Some e.1)) (filter test xs) (filter test ys)

-- the entries at places and others
places_append : (rows : List Row) (xs ys : List SummaryRow) → place_entries rows (xs ++ ys) ≡ place_entries rows xs ++ place_entries rows ys
places_append rows [] ys = refl
places_append rows (x ∷ xs) ys = ap (λ es. entries_in (row_at rows x.row) ++ es) (places_append rows xs ys) ∙ sym (append_assoc (entries_in (row_at rows x.row)) (place_entries rows xs) (place_entries rows ys))

-- the entries at one place more
place_more : (rows : List Row) (places : List SummaryRow) (i : ℕ) (d : SummaryRow) → i < length places → place_entries rows (take (i + 1) places) ≡ place_entries rows (take i places) ++ entries_in (row_at rows (get_or places i d).row)
place_more rows places i d within =
    ap (place_entries rows) (take_more places i d within) ∙ places_append rows (take i places) (get_or places i d ∷ [])
    ∙ ap (λ es. place_entries rows (take i places) ++ es) (append-nil (entries_in (row_at rows (get_or places i d).row)))

-- the amounts at one place more
pub amounts_more : (maxima : Bool) (test : Entry → Bool) (rows : List Row) (places : List SummaryRow) (i : ℕ) (place : SummaryRow) (old new : List ℕ) → i < length places → place ≡ get_or places i place →
    old ≡ amounts_of maxima test (place_entries rows (take i places)) → new ≡ old ++ amounts_of maxima test (entries_in (row_at rows place.row)) → new ≡ amounts_of maxima test (place_entries rows (take (i + 1) places))
amounts_more maxima test rows places i place old new within is old_is new_is =
    new_is ∙ ap (λ xs. xs ++ amounts_of maxima test (entries_in (row_at rows place.row))) old_is
    ∙ ap (λ (p : SummaryRow). amounts_of maxima test (place_entries rows (take i places)) ++ amounts_of maxima test (entries_in (row_at rows p.row))) is
    ∙ sym (ap (amounts_of maxima test) (place_more rows places i place within) ∙ amounts_append maxima test (place_entries rows (take i places)) (entries_in (row_at rows (get_or places i place).row)))

-- the sum at one place more
pub sum_more : (maxima : Bool) (test : Entry → Bool) (rows : List Row) (places : List SummaryRow) (i : ℕ) (place : SummaryRow) → i < length places → place ≡ get_or places i place →
    sum (amounts_of maxima test (place_entries rows (take (i + 1) places))) ≡ sum (amounts_of maxima test (place_entries rows (take i places))) + sum (amounts_of maxima test (entries_in (row_at rows place.row)))
sum_more maxima test rows places i place within is =
    ap sum (sym (amounts_more maxima test rows places i place (amounts_of maxima test (place_entries rows (take i places))) (amounts_of maxima test (place_entries rows (take i places)) ++ amounts_of maxima test (entries_in (row_at rows place.row))) within is refl refl))
    ∙ sum_by-append (λ (x : ℕ). x) (amounts_of maxima test (place_entries rows (take i places))) (amounts_of maxima test (entries_in (row_at rows place.row)))

-- the sum at the first places is not above the whole
pub sum_part : (maxima : Bool) (test : Entry → Bool) (rows : List Row) (places : List SummaryRow) (i : ℕ) → sum (amounts_of maxima test (place_entries rows (take i places))) ≤ sum (amounts_of maxima test (place_entries rows places))
sum_part maxima test rows places i =
    let whole : sum (amounts_of maxima test (place_entries rows places)) ≡ sum (amounts_of maxima test (place_entries rows (take i places))) + sum (amounts_of maxima test (place_entries rows (drop i places))) =
    ap (λ ps. sum (amounts_of maxima test (place_entries rows ps))) (sym (take-append-drop i places))
    ∙ ap (λ es. sum (amounts_of maxima test es)) (places_append rows (take i places) (drop i places))
    ∙ ap sum (amounts_append maxima test (place_entries rows (take i places)) (place_entries rows (drop i places)))
    ∙ sum_by-append (λ (x : ℕ). x) (amounts_of maxima test (place_entries rows (take i places))) (amounts_of maxima test (place_entries rows (drop i places))) in
    omega (arith, whole)

-- ---- one row

-- no amounts where there is no row
pub no_row : (maxima : Bool) (test : Entry → Bool) (rows : List Row) (i : ℕ) (xs : List ℕ) → length rows ≤ i → xs ≡ xs ++ amounts_of maxima test (entries_in (row_at rows i))
no_row maxima test rows i xs past = sym (append-nil xs) ∙ ap (λ (o : Option Row). xs ++ amounts_of maxima test (entries_in o)) (sym (row_past rows i past))

-- the amounts of a kind that were pushed
pub kind_pushed : (maxima mean : Bool) (rows : List Row) (i : ℕ) (row : Row) (old new : List ℕ) → i < length rows → row ≡ get_or rows i row → new ≡ old ++ cell_amounts maxima mean (cells_of row) → new ≡ old ++ amounts_of maxima (of_kind mean) (entries_in (row_at rows i))
kind_pushed maxima mean rows i row old new within is new_is =
    new_is ∙ ap (λ xs. old ++ xs) (sym (kind_of_row maxima mean row.key (cells_of row))) ∙ ap (λ (o : Option Row). old ++ amounts_of maxima (of_kind mean) (entries_in o)) (sym (row_is rows i row within is))

-- the amount of a sample's cell is that of the row's entries
pub sample_amounts : (maxima : Bool) (sample : ℕ) (rows : List Row) (i : ℕ) (row : Row) → 1 ≤ sample → All (λ row. IsRising (cells_of row)) rows → i < length rows → row ≡ get_or rows i row →
    amount_or_none maxima (cell_in (cells_of row) sample) ≡ amounts_of maxima (of_sample sample) (entries_in (row_at rows i))
sample_amounts maxima sample rows i row some rising within is =
    let rises : IsRising (cells_of row) = subst (λ (r : Row). IsRising (cells_of r)) (sym is) (All-get_or (λ (r : Row). IsRising (cells_of r)) rows i row within rising) in
    sym (sample_of_row maxima row.key sample some (cells_of row) rises) ∙ ap (λ (o : Option Row). amounts_of maxima (of_sample sample) (entries_in o)) (sym (row_is rows i row within is))

-- the sum of a period in a row
period_in : (maxima : Bool) (rows : List Row) (i : ℕ) (row : Row) (t : ℕ) → i < length rows → row ≡ get_or rows i row → sum (amounts_of maxima (of_period t) (entries_in (row_at rows i))) ≡ cond (nat_eq t row.key.period) (sum (cell_amounts maxima false (cells_of row))) 0
period_in maxima rows i row t within is =
    ap (λ (o : Option Row). sum (amounts_of maxima (of_period t) (entries_in o))) (row_is rows i row within is) ∙ period_of_row maxima row.key t (cells_of row)

-- the sum of its own period
pub period_here : (maxima : Bool) (rows : List Row) (i : ℕ) (row : Row) (total : ℕ) → i < length rows → row ≡ get_or rows i row → 1 ≤ row.key.period → total ≡ sum (cell_amounts maxima false (cells_of row)) →
    total ≡ sum (amounts_of maxima (of_period (row.key.period - 1 + 1)) (entries_in (row_at rows i)))
period_here maxima rows i row total within is first total_is =
    let same : nat_eq (row.key.period - 1 + 1) row.key.period ≡ true = (Decides-eqb (row.key.period - 1 + 1) row.key.period).1 (omega (arith, first)) in
    total_is ∙ sym (period_in maxima rows i row (row.key.period - 1 + 1) within is ∙ ap (λ b. cond b (sum (cell_amounts maxima false (cells_of row))) 0) same)

-- the sums of the periods with those of a row
pub period_added : (maxima : Bool) (rows : List Row) (i : ℕ) (row : Row) (sums : List ℕ) (total : ℕ) → i < length rows → row ≡ get_or rows i row → 1 ≤ row.key.period → row.key.period ≤ length sums → total ≡ sum (cell_amounts maxima false (cells_of row)) →
    (t : ℕ) → get_or (set sums (row.key.period - 1) (get_or sums (row.key.period - 1) 0 + total)) t 0 ≡ get_or sums t 0 + sum (amounts_of maxima (of_period (t + 1)) (entries_in (row_at rows i)))
period_added maxima rows i row sums total within is first last total_is t = by_test (nat_eq (t + 1) row.key.period) refl
  where
    by_test : (b : Bool) → nat_eq (t + 1) row.key.period ≡ b → get_or (set sums (row.key.period - 1) (get_or sums (row.key.period - 1) 0 + total)) t 0 ≡ get_or sums t 0 + sum (amounts_of maxima (of_period (t + 1)) (entries_in (row_at rows i)))
    by_test true same =
        let at : t + 1 ≡ row.key.period = (Decides-eqb (t + 1) row.key.period).0 same in
        let here : row.key.period - 1 ≡ t = omega (arith, at) in
        rw (here, period_in maxima rows i row (t + 1) within is, same) (get_or-set_same sums t (get_or sums t 0 + total) 0 (omega (arith, at, last)) ∙ ap (λ n. get_or sums t 0 + n) total_is)
    by_test false other =
        let apart : t ≢ row.key.period - 1 = λ at. let wrong : nat_eq (t + 1) row.key.period ≡ true = (Decides-eqb (t + 1) row.key.period).1 (omega (arith, at, first)) in let no : true ≡ false = sym wrong ∙ other in cc in
        rw (period_in maxima rows i row (t + 1) within is, other) (get_or-set_other sums (row.key.period - 1) t (get_or sums (row.key.period - 1) 0 + total) 0 apart ∙ omega arith)

-- no sum where there is no row
pub no_sum : (maxima : Bool) (test : Entry → Bool) (rows : List Row) (i n : ℕ) → length rows ≤ i → n ≡ n + sum (amounts_of maxima test (entries_in (row_at rows i)))
no_sum maxima test rows i n past = let none : sum (amounts_of maxima test (entries_in (row_at rows i))) ≡ 0 = ap (λ (o : Option Row). sum (amounts_of maxima test (entries_in o))) (row_past rows i past) in omega (arith, none)

-- the period of a row that was read
pub row_period : (n : ℕ) (rows : List Row) (i : ℕ) (row : Row) → All (λ row. (1 ≤ row.key.period) × (row.key.period ≤ n)) rows → i < length rows → row ≡ get_or rows i row → (1 ≤ row.key.period) × (row.key.period ≤ n)
row_period n rows i row all within is =
    subst (λ (r : Row). (1 ≤ r.key.period) × (r.key.period ≤ n)) (sym is) (All-get_or (λ (r : Row). (1 ≤ r.key.period) × (r.key.period ≤ n)) rows i row within all)
