-- The rows of a set: which entries those of a summary have, and which summaries there are.
use Rattle.std.proofs.Common.{◌≡◌, ℕ, zero, suc, ◌+◌, ◌<◌, ◌≤◌, List, [], ◌∷◌, ◌++◌, length, map, get_or, take, arith, refl, sym, ap, ◌∙◌, cond, append_assoc, length-append, Some, None}
use Rattle.std.specs.Prelude.{Bool, true, false, ◌&&◌, ◌||◌, nat_eq, All, ℤ}
use Rattle.std.specs.List.{filter, list_any}
use Rattle.std.specs.Map.{keys_of}
use Rattle.std.proofs.lemmas.Bool.Decides.{nat_tests, Decides-eqb}
use Rattle.std.proofs.lemmas.List.{map-append, take_more, length-take-le}
use Rattle.std.proofs.lemmas.List.Elements.{All-head, All-tail, All-nil, All-cons, All-filter, All-weaker, filter-append, filter_passes}
use Rattle.std.proofs.lemmas.Map.Made.{IsDistinct-keys_filter}
use Rattle.kt_rec.specs.declared.perspective.Perspective.{Perspective}
use Rattle.kt_rec.specs.declared.perspective.CellKey.{CellKey}
use Rattle.kt_cell.specs.declared.cell.Cell.{Cell}
use Rattle.kt_period_cells.specs.declared.row_key.RowKey.{RowKey}
use Rattle.kt_period_cells.specs.declared.row_key.IndexKey.{IndexKey}
use Rattle.kt_period_cells.specs.declared.row.Row.{Row}
use Rattle.kt_period_cells.specs.declared.group.SummaryRow.{SummaryRow}
use Rattle.kt_cell.specs.Losses.{same_key, same_perspective, key_of}
use Rattle.kt_cell.specs.Sets.{IsGroup, in_set, set_entries, summary_entries}
use Rattle.kt_cell.specs.Standing.{FitsCells}
use Rattle.kt_period_cells.specs.RowCells.{SampleCells, cells_of}
use Rattle.kt_period_cells.specs.Rows.{KeptRows, key_in, row_entries, entries_of, IsTable}
use Rattle.kt_period_cells.specs.SummaryRows.{has_any, row_at, entries_in, place_entries, of_row, of_summary, summary_row, is_listed, places_from, IsSetOf}
use Rattle.kt_period_cells.proofs.Parts.{in_set_is}
use Rattle.kt_period_cells.proofs.SetEntries.{fitting, distinct}

-- an entry
abbrev Entry : Type 0
Entry = CellKey × Cell

-- the entries of a row's cells
abbrev pub entries : RowKey → SampleCells → List Entry
entries row cells = map (λ one. (key_in row one.0, one.1)) cells

-- ---- the row at a place

-- the row that was read
pub row_is : (rows : List Row) (i : ℕ) (row : Row) → i < length rows → row ≡ get_or rows i row → row_at rows i ≡ Some row
row_is [] i row within is = absurd (omega (arith, within))
row_is (first ∷ rows) zero row within is = ap Some (sym is)
row_is (first ∷ rows) (suc i) row within is = row_is rows i row (omega (arith, within)) is

-- no row
pub row_past : (rows : List Row) (i : ℕ) → length rows ≤ i → row_at rows i ≡ None
row_past [] i past = refl
row_past (first ∷ rows) zero past = absurd (omega (arith, past))
row_past (first ∷ rows) (suc i) past = row_past rows i (omega (arith, past))

-- the row behind others
row_behind : (before : List Row) (row : Row) (rows : List Row) (at : ℕ) → at ≡ length before → row_at (before ++ row ∷ rows) at ≡ Some row
row_behind [] row rows zero is = refl
row_behind [] row rows (suc at) is = absurd (omega (arith, is))
row_behind (first ∷ before) row rows zero is = absurd (omega (arith, is))
row_behind (first ∷ before) row rows (suc at) is = row_behind before row rows at (omega (arith, is))

-- ---- the entries of a summary

-- no cells
none_any : (cells : SampleCells) → has_any cells ≡ false → cells ≡ []
none_any [] none = refl
none_any (one ∷ cells) none = cc

-- the entries of a set in one row: all of them, or none
set_row : (p : Perspective) (s : ℕ) (row : RowKey) (b : Bool) → (same_perspective row.perspective p && nat_eq row.set s) ≡ b → (cells : SampleCells) → set_entries p s (entries row cells) ≡ cond b (entries row cells) []
set_row p s row true is [] = refl
set_row p s row false is [] = refl
set_row p s row true is (one ∷ cells) = rw is (ap (λ (es : List Entry). (key_in row one.0, one.1) ∷ es) (set_row p s row true is cells))
set_row p s row false is (one ∷ cells) = rw is (set_row p s row false is cells)

-- and those of a summary
summary_of_row : (u : ℕ) (row : RowKey) (b : Bool) → nat_eq row.summary u ≡ b → (cells : SampleCells) → summary_entries u (entries row cells) ≡ cond b (entries row cells) []
summary_of_row u row true is [] = refl
summary_of_row u row false is [] = refl
summary_of_row u row true is (one ∷ cells) = rw is (ap (λ (es : List Entry). (key_in row one.0, one.1) ∷ es) (summary_of_row u row true is cells))
summary_of_row u row false is (one ∷ cells) = rw is (summary_of_row u row false is cells)

-- the entries of one place more
place_more : (rows : List Row) (u : ℕ) (place : SummaryRow) (places : List SummaryRow) (b : Bool) → nat_eq place.summary u ≡ b →
    place_entries rows (filter (of_row u) (place ∷ places)) ≡ cond b (entries_in (row_at rows place.row)) [] ++ place_entries rows (filter (of_row u) places)
place_more rows u place places b is = ap (λ c. place_entries rows (cond c (place ∷ filter (of_row u) places) (filter (of_row u) places))) is ∙ by_test b
  where
    by_test : (b : Bool) → place_entries rows (cond b (place ∷ filter (of_row u) places) (filter (of_row u) places)) ≡ cond b (entries_in (row_at rows place.row)) [] ++ place_entries rows (filter (of_row u) places)
    by_test true = refl
    by_test false = refl

-- the entries of a summary at the places of a set
pub entries_are : (p : Perspective) (s u : ℕ) (before rows : List Row) (at : ℕ) → at ≡ length before →
    place_entries (before ++ rows) (filter (of_row u) (places_from at p s rows)) ≡ summary_entries u (set_entries p s (entries_of rows))
entries_are p s u before [] at is = refl
entries_are p s u before (row ∷ rows) at is = by_tests (entries_are p s u (before ++ row ∷ []) rows (suc at) (omega (arith, is, length-append before (row ∷ [])))) (same_perspective row.key.perspective p && nat_eq row.key.set s) (has_any (cells_of row)) (nat_eq row.key.summary u) refl refl refl
  where
    whole : List Row
    whole = before ++ row ∷ rows

    others : List SummaryRow
    others = places_from (suc at) p s rows

    rest : List Entry
    rest = summary_entries u (set_entries p s (entries_of rows))

    moved : place_entries ((before ++ row ∷ []) ++ rows) (filter (of_row u) others) ≡ rest → place_entries whole (filter (of_row u) others) ≡ rest
    moved later = ap (λ rs. place_entries rs (filter (of_row u) others)) (sym (append_assoc before (row ∷ []) rows)) ∙ later

    here : entries_in (row_at whole at) ≡ row_entries row
    here = ap entries_in (row_behind before row rows at is)

    split : (own : Bool) → (same_perspective row.key.perspective p && nat_eq row.key.set s) ≡ own → summary_entries u (set_entries p s (row_entries row ++ entries_of rows)) ≡ summary_entries u (cond own (row_entries row) []) ++ rest
    split own own_is =
        ap (summary_entries u) (filter-append (λ entry. in_set p s entry.0) (row_entries row) (entries_of rows) ∙ ap (λ es. es ++ set_entries p s (entries_of rows)) (set_row p s row.key own own_is (cells_of row)))
        ∙ filter-append (λ entry. nat_eq entry.0.summary u) (cond own (row_entries row) []) (set_entries p s (entries_of rows))

    by_tests : place_entries ((before ++ row ∷ []) ++ rows) (filter (of_row u) others) ≡ rest → (own any mine : Bool) → (same_perspective row.key.perspective p && nat_eq row.key.set s) ≡ own → has_any (cells_of row) ≡ any → nat_eq row.key.summary u ≡ mine →
        place_entries whole (filter (of_row u) (cond ((same_perspective row.key.perspective p && nat_eq row.key.set s) && has_any (cells_of row)) (summary_row row.key.summary at ∷ others) others)) ≡ summary_entries u (set_entries p s (row_entries row ++ entries_of rows))
    by_tests later true true mine own_is any_is mine_is =
        rw (own_is, any_is) (place_more whole u (summary_row row.key.summary at) others mine mine_is ∙ ap (λ es. cond mine es [] ++ place_entries whole (filter (of_row u) others)) here ∙ ap (λ es. cond mine (row_entries row) [] ++ es) (moved later)
        ∙ sym (split true own_is ∙ ap (λ es. es ++ rest) (summary_of_row u row.key mine mine_is (cells_of row))))
    by_tests later true false mine own_is any_is mine_is =
        let empty : row_entries row ≡ [] = ap (entries row.key) (none_any (cells_of row) any_is) in
        rw (own_is, any_is) (moved later ∙ ap (λ es. summary_entries u (set_entries p s (es ++ entries_of rows))) (sym empty))
    by_tests later false any mine own_is any_is mine_is = rw own_is (moved later ∙ sym (split false own_is))

-- ---- the summaries

-- whether some key of a row is of a summary
row_members : (p : Perspective) (s u : ℕ) (row : RowKey) (b : Bool) → of_summary p s u (key_in row 0) ≡ b → (cells : SampleCells) → list_any (of_summary p s u) (keys_of (entries row cells)) ≡ (has_any cells && b)
row_members p s u row b is [] = refl
row_members p s u row b is (one ∷ cells) = by_test b is (has_any cells) (row_members p s u row b is cells)
  where
    by_test : (b : Bool) → of_summary p s u (key_in row 0) ≡ b → (any : Bool) → list_any (of_summary p s u) (keys_of (entries row cells)) ≡ (any && b) → list_any (of_summary p s u) (keys_of (entries row (one ∷ cells))) ≡ b
    by_test b is any later = ap (λ c. c || list_any (of_summary p s u) (keys_of (entries row cells))) is ∙ ap (λ c. b || c) later ∙ both b any
      where
        both : (b any : Bool) → (b || (any && b)) ≡ b
        both true any = refl
        both false true = refl
        both false false = refl

-- some of two lists
pub any_append : {X : Type 0} (test : X → Bool) (xs ys : List X) → list_any test (xs ++ ys) ≡ (list_any test xs || list_any test ys)
any_append test [] ys = refl
any_append test (x ∷ xs) ys = ap (λ b. test x || b) (any_append test xs ys) ∙ sym (either (test x) (list_any test xs) (list_any test ys))
  where
    either : (a b c : Bool) → ((a || b) || c) ≡ (a || (b || c))
    either true b c = refl
    either false b c = refl

-- some place is of a summary where some key of the set is
pub members_are : (p : Perspective) (s u : ℕ) (rows : List Row) (at : ℕ) → list_any (λ place. nat_eq u place.summary) (places_from at p s rows) ≡ list_any (of_summary p s u) (keys_of (set_entries p s (entries_of rows)))
members_are p s u [] at = refl
members_are p s u (row ∷ rows) at =
    by_tests (members_are p s u rows (suc at)) (same_perspective row.key.perspective p && nat_eq row.key.set s) (has_any (cells_of row)) refl refl
    ∙ sym (split (same_perspective row.key.perspective p && nat_eq row.key.set s) refl)
  where
    others : List SummaryRow
    others = places_from (suc at) p s rows

    rest : Bool
    rest = list_any (of_summary p s u) (keys_of (set_entries p s (entries_of rows)))

    split : (own : Bool) → (same_perspective row.key.perspective p && nat_eq row.key.set s) ≡ own →
        list_any (of_summary p s u) (keys_of (set_entries p s (row_entries row ++ entries_of rows))) ≡ (list_any (of_summary p s u) (keys_of (cond own (row_entries row) [])) || rest)
    split own own_is =
        ap (λ es. list_any (of_summary p s u) (keys_of es)) (filter-append (λ entry. in_set p s entry.0) (row_entries row) (entries_of rows) ∙ ap (λ es. es ++ set_entries p s (entries_of rows)) (set_row p s row.key own own_is (cells_of row)))
        ∙ ap (list_any (of_summary p s u)) (map-append (λ (e : Entry). e.0) (cond own (row_entries row) []) (set_entries p s (entries_of rows)))
        ∙ any_append (of_summary p s u) (keys_of (cond own (row_entries row) [])) (keys_of (set_entries p s (entries_of rows)))

    by_tests : list_any (λ place. nat_eq u place.summary) others ≡ rest → (own any : Bool) → (same_perspective row.key.perspective p && nat_eq row.key.set s) ≡ own → has_any (cells_of row) ≡ any →
        list_any (λ place. nat_eq u place.summary) (cond ((same_perspective row.key.perspective p && nat_eq row.key.set s) && has_any (cells_of row)) (summary_row row.key.summary at ∷ others) others)
        ≡ (list_any (of_summary p s u) (keys_of (cond (same_perspective row.key.perspective p && nat_eq row.key.set s) (row_entries row) [])) || rest)
    by_tests later true true own_is any_is =
        rw (own_is, any_is) (sym (ap (λ b. b || rest) (row_members p s u row.key (nat_eq u row.key.summary) (ap (λ b. b && nat_eq u row.key.summary) own_is) (cells_of row) ∙ ap (λ b. b && nat_eq u row.key.summary) any_is)
        ∙ ap (λ b. nat_eq u row.key.summary || b) (sym later)))
    by_tests later true false own_is any_is =
        let empty : row_entries row ≡ [] = ap (entries row.key) (none_any (cells_of row) any_is) in
        rw (own_is, any_is) (later ∙ ap (λ es. list_any (of_summary p s u) (keys_of es) || rest) (sym empty))
    by_tests later false any own_is any_is = rw own_is later

-- whether there is a place
abbrev any_place : List SummaryRow → Bool
any_place [] = false
any_place (place ∷ places) = true

-- some place is of a summary where the summary has places
any_filter : (u : ℕ) (places : List SummaryRow) → list_any (λ place. nat_eq u place.summary) places ≡ any_place (filter (of_row u) places)
any_filter u [] = refl
any_filter u (place ∷ places) = ap (λ b. b || list_any (λ (place : SummaryRow). nat_eq u place.summary) places) (turned u place.summary) ∙ by_test (any_filter u places) (nat_eq place.summary u)
  where
    turned : (a b : ℕ) → nat_eq a b ≡ nat_eq b a
    turned a b = grind (arith, nat_tests)

    by_test : list_any (λ (place : SummaryRow). nat_eq u place.summary) places ≡ any_place (filter (of_row u) places) → (b : Bool) → (b || list_any (λ (place : SummaryRow). nat_eq u place.summary) places) ≡ any_place (cond b (place ∷ filter (of_row u) places) (filter (of_row u) places))
    by_test later true = refl
    by_test later false = later

-- ---- the rows of a set

-- keys of the same parts are the same
key_parts : (p q : Perspective) (s t u v : ℕ) (x : ℤ) (i : ℕ) → p ≡ q → s ≡ t → u ≡ v → key_of p s u x i ≡ key_of q t v x i
key_parts p q s t u v x i a b c = cc

-- the entries of a summary are a group
group_is : (p : Perspective) (s u periods samples held : ℕ) (index : List (IndexKey × ℕ)) (rows : List Row) → IsTable periods samples held index rows → IsGroup p s periods samples u (summary_entries u (set_entries p s (entries_of rows)))
group_is p s u periods samples held index rows table =
    record {
      some = table.some;
      few = table.few;
      some_samples = table.some_samples;
      few_samples = table.few_samples;
      fitting = All-filter (λ entry. nat_eq entry.0.summary u) (λ (e : Entry). FitsCells periods samples e.0 e.1) (set_entries p s (entries_of rows)) (All-filter (λ entry. in_set p s entry.0) (λ (e : Entry). FitsCells periods samples e.0 e.1) (entries_of rows) (fitting periods samples rows table.fits));
      distinct = IsDistinct-keys_filter same_key (λ entry. nat_eq entry.0.summary u) (set_entries p s (entries_of rows)) (IsDistinct-keys_filter same_key (λ entry. in_set p s entry.0) (entries_of rows) (distinct periods samples rows table.apart table.fits));
      own = All-weaker (λ (e : Entry). (in_set p s e.0 ≡ true) × (nat_eq e.0.summary u ≡ true)) (λ (e : Entry). e.0 ≡ key_of p s u e.0.sidx e.0.period) (λ e both. let parts = in_set_is p s e.0 both.0 in key_parts e.0.perspective p e.0.set s e.0.summary u e.0.sidx e.0.period parts.0 parts.1 ((Decides-eqb e.0.summary u).0 both.1)) (summary_entries u (set_entries p s (entries_of rows))) (both_pass (set_entries p s (entries_of rows)) (filter_passes (λ entry. in_set p s entry.0) (entries_of rows)));
    }
  where
    both_pass : (es : List Entry) → All (λ e. in_set p s e.0 ≡ true) es → All (λ e. (in_set p s e.0 ≡ true) × (nat_eq e.0.summary u ≡ true)) (summary_entries u es)
    both_pass [] all = All-nil _
    both_pass (e ∷ es) all = by_test (nat_eq e.0.summary u) refl (both_pass es (All-tail (λ (e : Entry). in_set p s e.0 ≡ true) e es all))
      where
        by_test : (b : Bool) → nat_eq e.0.summary u ≡ b → All (λ e. (in_set p s e.0 ≡ true) × (nat_eq e.0.summary u ≡ true)) (summary_entries u es) → All (λ e. (in_set p s e.0 ≡ true) × (nat_eq e.0.summary u ≡ true)) (cond b (e ∷ summary_entries u es) (summary_entries u es))
        by_test true is later = All-cons (λ (e : Entry). (in_set p s e.0 ≡ true) × (nat_eq e.0.summary u ≡ true)) e (summary_entries u es) (All-head (λ (e : Entry). in_set p s e.0 ≡ true) e es all, is) later
        by_test false is later = later

-- the places of a set by summary
pub set_is : (p : Perspective) (s held : ℕ) (index : List (IndexKey × ℕ)) (kept : KeptRows) (found places : List SummaryRow) → IsTable kept.periods kept.samples held index kept.rows → found ≡ places_from 0 p s kept.rows →
    ((u : ℕ) → filter (of_row u) places ≡ filter (of_row u) found) → IsSetOf kept p s places
set_is p s held index kept found places table found_is same =
    record {
      groups = λ u. rw (has u) (group_is p s u kept.periods kept.samples held index kept.rows table);
      entries = has;
      members = λ u. any_filter u places ∙ ap any_place (same u) ∙ sym (any_filter u found) ∙ ap (list_any (λ (place : SummaryRow). nat_eq u place.summary)) found_is ∙ members_are p s u kept.rows 0;
    }
  where
    has : (u : ℕ) → place_entries kept.rows (filter (of_row u) places) ≡ summary_entries u (set_entries p s (entries_of kept.rows))
    has u = ap (place_entries kept.rows) (same u) ∙ ap (λ ps. place_entries kept.rows (filter (of_row u) ps)) found_is ∙ entries_are p s u [] kept.rows 0 refl

-- the places of rows and others
places_append : (p : Perspective) (s : ℕ) (xs ys : List Row) (at : ℕ) → places_from at p s (xs ++ ys) ≡ places_from at p s xs ++ places_from (at + length xs) p s ys
places_append p s [] ys at = let same : at ≡ at + 0 = omega arith in ap (λ n. places_from n p s ys) same
places_append p s (x ∷ xs) ys at = by_test (is_listed p s x) (places_append p s xs ys (suc at))
  where
    same : suc at + length xs ≡ at + suc (length xs)
    same = omega arith

    by_test : (b : Bool) → places_from (suc at) p s (xs ++ ys) ≡ places_from (suc at) p s xs ++ places_from (suc at + length xs) p s ys →
        cond b (summary_row x.key.summary at ∷ places_from (suc at) p s (xs ++ ys)) (places_from (suc at) p s (xs ++ ys)) ≡ cond b (summary_row x.key.summary at ∷ places_from (suc at) p s xs) (places_from (suc at) p s xs) ++ places_from (at + suc (length xs)) p s ys
    by_test true later = ap (λ ps. summary_row x.key.summary at ∷ ps) (later ∙ ap (λ n. places_from (suc at) p s xs ++ places_from n p s ys) same)
    by_test false later = later ∙ ap (λ n. places_from (suc at) p s xs ++ places_from n p s ys) same

-- the places of one row more
pub places_more : (p : Perspective) (s : ℕ) (rows : List Row) (i : ℕ) (row : Row) (old new : List SummaryRow) (b : Bool) → i < length rows → row ≡ get_or rows i row → b ≡ is_listed p s row → old ≡ places_from 0 p s (take i rows) →
    new ≡ old ++ cond b (summary_row row.key.summary i ∷ []) [] → new ≡ places_from 0 p s (take (i + 1) rows)
places_more p s rows i row old new b within is b_is old_is new_is =
    let short : length (take i rows) ≡ i = length-take-le i rows (omega (arith, within)) in
    let at : i ≡ 0 + length (take i rows) = omega (arith, short) in
    new_is ∙ ap (λ ps. ps ++ cond b (summary_row row.key.summary i ∷ []) []) old_is ∙ ap (λ c. places_from 0 p s (take i rows) ++ cond c (summary_row row.key.summary i ∷ []) []) b_is
    ∙ ap (λ n. places_from 0 p s (take i rows) ++ cond (is_listed p s row) (summary_row row.key.summary n ∷ []) []) at
    ∙ sym (ap (places_from 0 p s) (take_more rows i row within ∙ ap (λ r. take i rows ++ r ∷ []) (sym is)) ∙ places_append p s (take i rows) (row ∷ []) 0)
