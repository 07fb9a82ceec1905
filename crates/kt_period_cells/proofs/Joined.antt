-- The rows of other cells behind the rows, where none of them stood there.
use Rattle.std.proofs.Common.{◌≡◌, ◌⊎◌, inl, inr, ℕ, zero, suc, ◌+◌, ◌<◌, ◌≤◌, List, [], ◌∷◌, ◌++◌, length, take, get_or, arith, refl, sym, ap, ◌∙◌, subst, cond, append_assoc, append-nil, Some, None, Option}
use Rattle.std.specs.Prelude.{Bool, true, false, ◌&&◌, is_some, nat_eq, nat_lt}
use Rattle.std.specs.Option.{option_map, option_or}
use Rattle.std.specs.Map.{lookup}
use Rattle.std.proofs.lemmas.List.{length-append, map-append, take_more, length-take-le}
use Rattle.std.proofs.lemmas.List.Elements.{All-append}
use Rattle.kt_rec.specs.declared.perspective.CellKey.{CellKey}
use Rattle.kt_period_cells.specs.declared.row.Row.{Row}
use Rattle.kt_period_cells.specs.declared.row_key.IndexKey.{IndexKey}
use Rattle.kt_period_cells.specs.declared.row_key.RowKey.{RowKey}
use Rattle.kt_period_cells.specs.Journal.{Clear}
use Rattle.kt_cell.specs.Losses.{KeyLoss, maximum, one_if, opened, opens, total}
use Rattle.kt_period_cells.specs.RowCells.{HasBound, RowFits}
use Rattle.kt_period_cells.specs.Rows.{Apart, AreAbsent, IsIndexOf, IsTable, entries_of, index_key, place_of, row_entries, row_keys, row_of, same_index, same_row}
use Rattle.kt_cell.specs.SameKeys.{same_itself}
use Rattle.kt_cell.specs.Standing.{Standing, cell_at, cell_of, most_cells, most_total, total_in}
use Rattle.kt_cell.specs.TotalLaws.{cell_some, loss_for}
use Rattle.kt_period_cells.proofs.Places.{keys_push, length_keys, not_first, place_more}
use Rattle.kt_period_cells.proofs.RaisedRows.{clear_in_order}
use Rattle.kt_period_cells.proofs.RowKeys.{row_exact, same_row_back}
use Rattle.kt_period_cells.proofs.SameLosses.{maximum_append, opened_append, same_list, total_append, total_first}
use Rattle.kt_period_cells.proofs.Tables.{found_append, nowhere, or_none}

-- ---- the rows

-- the keys of rows and of others behind them
keys_append : (rows others : List Row) → row_keys (rows ++ others) ≡ row_keys rows ++ row_keys others
keys_append rows others = map-append (λ (row : Row). row.key) rows others

-- the entries of both
entries_append : (rows others : List Row) → entries_of (rows ++ others) ≡ entries_of rows ++ entries_of others
entries_append [] others = refl
entries_append (row ∷ rows) others = ap (λ es. row_entries row ++ es) (entries_append rows others) ∙ sym (append_assoc (row_entries row) (entries_of rows) (entries_of others))

-- a row that is found is none of those that are absent
found_here : (q : RowKey) (keys others : List RowKey) (i : ℕ) → AreAbsent others keys → place_of q keys ≡ Some i → place_of q others ≡ None
found_here q keys [] i absent found = refl
found_here q keys (first ∷ others) i absent found = by_test (same_row q first) refl (found_here q keys others i absent.1 found)
  where
    by_test : (b : Bool) → same_row q first ≡ b → place_of q others ≡ None → cond b (Some 0) (option_map suc (place_of q others)) ≡ None
    by_test true same later =
        let none : place_of q keys ≡ None = subst (λ (k : RowKey). place_of k keys ≡ None) (sym (row_exact q first same)) absent.0 in
        let wrong : Some i ≡ None = sym found ∙ none in cc
    by_test false other later = ap (option_map suc) later

-- those that are absent behind a first one are absent, and it is none of them
absent_rest : (first : RowKey) (keys others : List RowKey) → AreAbsent others (first ∷ keys) → AreAbsent others keys × (place_of first others ≡ None)
absent_rest first keys [] absent = (tt, refl)
absent_rest first keys (one ∷ others) absent =
    let behind = not_first (same_row one first) (place_of one keys) absent.0 in
    let later = absent_rest first keys others absent.1 in
    ((behind.1, later.0), ap (λ b. cond b (Some 0) (option_map suc (place_of first others))) (same_row_back one first behind.0) ∙ ap (option_map suc) later.1)

-- where a row stands among two lists
none_in_both : (q : RowKey) (keys others : List RowKey) → place_of q keys ≡ None → place_of q others ≡ None → place_of q (keys ++ others) ≡ None
none_in_both q [] others here there = there
none_in_both q (first ∷ keys) others here there =
    let behind = not_first (same_row q first) (place_of q keys) here in
    ap (λ b. cond b (Some 0) (option_map suc (place_of q (keys ++ others)))) behind.0 ∙ ap (option_map suc) (none_in_both q keys others behind.1 there)

-- all stand apart then
apart_both : (keys others : List RowKey) → Apart keys → Apart others → AreAbsent others keys → Apart (keys ++ others)
apart_both [] others apart further absent = further
apart_both (first ∷ keys) others apart further absent =
    let rest = absent_rest first keys others absent in
    (none_in_both first keys others apart.0 rest.1, apart_both keys others apart.1 further rest.0)

pub rows_apart : (rows others : List Row) → Apart (row_keys rows) → Apart (row_keys others) → AreAbsent (row_keys others) (row_keys rows) → Apart (row_keys (rows ++ others))
rows_apart rows others apart further absent = subst Apart (sym (keys_append rows others)) (apart_both (row_keys rows) (row_keys others) apart further absent)

-- ---- one more of them is absent

-- nothing was found
pub nothing_found : (o : Option ℕ) → is_some o ≡ false → o ≡ None
nothing_found (Some i) none = cc
nothing_found None none = refl

pub absent_more : (rows : List Row) (keys : List RowKey) (i : ℕ) (row : Row) → i < length rows → row ≡ get_or rows i row → place_of row.key keys ≡ None → AreAbsent (row_keys (take i rows)) keys → AreAbsent (row_keys (take (i + 1) rows)) keys
absent_more rows keys i row within is missing absent =
    subst (λ (front : List Row). AreAbsent (row_keys front) keys) (sym (take_more rows i row within ∙ ap (λ (r : Row). take i rows ++ r ∷ []) (sym is)))
    (push (take i rows) absent)
  where
    push : (front : List Row) → AreAbsent (row_keys front) keys → AreAbsent (row_keys (front ++ row ∷ [])) keys
    push [] all = (missing, tt)
    push (first ∷ front) all = (all.0, push front all.1)

-- ---- the index

-- a row is none of those before it
front_apart : (front : List RowKey) (key : RowKey) (rest : List RowKey) → Apart (front ++ key ∷ rest) → place_of key front ≡ None
front_apart [] key rest apart = refl
front_apart (first ∷ front) key rest apart =
    let other = differs front apart.0 in
    ap (λ b. cond b (Some 0) (option_map suc (place_of key front))) (same_row_back first key other) ∙ ap (option_map suc) (front_apart front key rest apart.1)
  where
    differs : (front : List RowKey) → place_of first (front ++ key ∷ rest) ≡ None → same_row first key ≡ false
    differs [] none = (not_first (same_row first key) (place_of first rest) none).0
    differs (one ∷ front) none = differs front (not_first (same_row first one) (place_of first (front ++ key ∷ rest)) none).1

-- the index of one row more
pub index_more : (index new_index : List (IndexKey × ℕ)) (rows : List Row) (i : ℕ) (row : Row) (rest : List Row) → i < length rows → row ≡ get_or rows i row → rows ≡ take i rows ++ row ∷ rest → Apart (row_keys rows) → IsIndexOf index (take i rows) →
    ((q : IndexKey) → lookup (same_index q) new_index ≡ cond (same_index (index_key row.key) q) (Some i) (lookup (same_index q) index)) → IsIndexOf new_index (take (i + 1) rows)
index_more index new_index rows i row rest within is around apart found puts = λ q.
    let front : List Row = take i rows in
    let more : take (i + 1) rows ≡ front ++ row ∷ [] = take_more rows i row within ∙ ap (λ (r : Row). front ++ r ∷ []) (sym is) in
    let many : length (row_keys front) ≡ i = length_keys front ∙ length-take-le i rows (omega (arith, within)) in
    let missing : place_of row.key (row_keys front) ≡ None = front_apart (row_keys front) row.key (row_keys rest) (subst Apart (ap row_keys around ∙ keys_append front (row ∷ rest)) apart) in
    puts (index_key q) ∙ ap (cond (same_row row.key q) (Some i)) (found q) ∙ ap (λ n. cond (same_row row.key q) (Some n) (place_of q (row_keys front))) (sym many) ∙ place_more row.key q (row_keys front) missing
    ∙ sym (ap (λ (rs : List Row). place_of q (row_keys rs)) more ∙ ap (place_of q) (keys_push front row row.key refl))

-- ---- the table

-- with another index of the same rows
pub table_indexed : (periods samples held : ℕ) (index new_index : List (IndexKey × ℕ)) (rows : List Row) → IsTable periods samples held index rows → IsIndexOf new_index rows → IsTable periods samples held new_index rows
table_indexed periods samples held index new_index rows table found =
    record {
      some = table.some;
      few = table.few;
      some_samples = table.some_samples;
      few_samples = table.few_samples;
      fits = table.fits;
      bounds = table.bounds;
      found = found;
      apart = table.apart;
      count = table.count;
    }

-- with the rows of another behind its own
pub table_both : (periods samples held more : ℕ) (index others_index new_index : List (IndexKey × ℕ)) (rows others : List Row) → IsTable periods samples held index rows → IsTable periods samples more others_index others →
    AreAbsent (row_keys others) (row_keys rows) → IsIndexOf new_index (rows ++ others) → IsTable periods samples (held + more) new_index (rows ++ others)
table_both periods samples held more index others_index new_index rows others table further absent found =
    record {
      some = table.some;
      few = table.few;
      some_samples = table.some_samples;
      few_samples = table.few_samples;
      fits = All-append (RowFits periods samples) rows others table.fits further.fits;
      bounds = All-append HasBound rows others table.bounds further.bounds;
      found = found;
      apart = rows_apart rows others table.apart further.apart absent;
      count = omega (arith, table.count, further.count, ap length (entries_append rows others), length-append (entries_of rows) (entries_of others));
    }

-- ---- what the rows of both stand for

-- no total, no maximum
no_maximum : (xs : List KeyLoss) (key : CellKey) → total xs key ≡ 0 → maximum xs key ≡ 0
no_maximum [] key none = refl
no_maximum (x ∷ xs) key none =
    let parts : loss_for x key + total xs key ≡ 0 = sym (total_first x xs key) ∙ none in
    omega (arith, parts, no_maximum xs key (omega (arith, parts)))

-- no cell, no total
no_total : (sum greatest : ℕ) → cell_of sum greatest ≡ None → sum ≡ 0
no_total zero greatest none = refl
no_total (suc n) greatest none = let some = cell_some (suc n) greatest (omega arith) in let wrong = sym some ∙ none in cc

-- losses open as many cells behind others that have no loss for the same key
opened_apart : (before done xs : List KeyLoss) → ((key : CellKey) → (total before key ≡ 0) ⊎ (total xs key ≡ 0)) → opened (before ++ done) xs ≡ opened done xs
opened_apart before done [] apart = refl
opened_apart before done (x ∷ xs) apart =
    let later : opened (before ++ (done ++ x ∷ [])) xs ≡ opened (done ++ x ∷ []) xs = opened_apart before (done ++ x ∷ []) xs (λ key. rest key (apart key)) in
    let moved : opened ((before ++ done) ++ x ∷ []) xs ≡ opened (before ++ (done ++ x ∷ [])) xs = ap (λ (b : List KeyLoss). opened b xs) (append_assoc before done (x ∷ [])) in
    let here : opens (before ++ done) x ≡ opens done x = first x.loss refl (apart x.key) in
    omega (arith, later, moved, ap one_if here)
  where
    rest : (key : CellKey) → (total before key ≡ 0) ⊎ (total (x ∷ xs) key ≡ 0) → (total before key ≡ 0) ⊎ (total xs key ≡ 0)
    rest key (inl none) = inl none
    rest key (inr none) = inr (omega (arith, none, total_first x xs key))

    same_total : total before x.key ≡ 0 → opens (before ++ done) x ≡ opens done x
    same_total none =
        let totals : total (before ++ done) x.key ≡ total done x.key = omega (arith, total_append before done x.key, none) in
        ap (λ n. nat_lt 0 x.loss && nat_eq n 0) totals

    first : (loss : ℕ) → x.loss ≡ loss → (total before x.key ≡ 0) ⊎ (total (x ∷ xs) x.key ≡ 0) → opens (before ++ done) x ≡ opens done x
    first zero is either = rw is refl
    first (suc loss) is (inl none) = same_total none
    first (suc loss) is (inr none) =
        let own : loss_for x x.key ≡ x.loss = ap (λ b. cond b x.loss 0) (same_itself x.key) in
        absurd (omega (arith, is, own, none, total_first x xs x.key))

module _ (rows others : List Row) (before more : List KeyLoss) (absent : AreAbsent (row_keys others) (row_keys rows)) (stands : Standing before (entries_of rows)) (further : Standing more (entries_of others)) where
  -- of each key the rows have no cell, or the others have none
  parted : (key : CellKey) (place : Option ℕ) → place_of (row_of key) (row_keys rows) ≡ place → (cell_at (entries_of rows) key ≡ None) ⊎ (cell_at (entries_of others) key ≡ None)
  parted key None found = inl (nowhere rows key found)
  parted key (Some i) found = inr (nowhere others key (found_here (row_of key) (row_keys rows) (row_keys others) i absent found))

  none_before : (key : CellKey) → cell_at (entries_of rows) key ≡ None → total before key ≡ 0
  none_before key none = no_total (total before key) (maximum before key) (sym (stands.cells key) ∙ none)

  none_more : (key : CellKey) → cell_at (entries_of others) key ≡ None → total more key ≡ 0
  none_more key none = no_total (total more key) (maximum more key) (sym (further.cells key) ∙ none)

  one_without : (key : CellKey) → (cell_at (entries_of rows) key ≡ None) ⊎ (cell_at (entries_of others) key ≡ None) → (total before key ≡ 0) ⊎ (total more key ≡ 0)
  one_without key (inl none) = inl (none_before key none)
  one_without key (inr none) = inr (none_more key none)

  both_cells : (key : CellKey) → (cell_at (entries_of rows) key ≡ None) ⊎ (cell_at (entries_of others) key ≡ None) → option_or (cell_at (entries_of rows) key) (cell_at (entries_of others) key) ≡ cell_of (total (before ++ more) key) (maximum (before ++ more) key)
  both_cells key (inl none) =
      let zero_is = none_before key none in
      let totals : total more key ≡ total (before ++ more) key = omega (arith, zero_is, total_append before more key) in
      let maxima : maximum more key ≡ maximum (before ++ more) key = omega (arith, no_maximum before key zero_is, maximum_append before more key) in
      ap (λ o. option_or o (cell_at (entries_of others) key)) none ∙ further.cells key ∙ ap (λ n. cell_of n (maximum more key)) totals ∙ ap (cell_of (total (before ++ more) key)) maxima
  both_cells key (inr none) =
      let zero_is = none_more key none in
      let totals : total before key ≡ total (before ++ more) key = omega (arith, zero_is, total_append before more key) in
      let maxima : maximum before key ≡ maximum (before ++ more) key = omega (arith, no_maximum more key zero_is, maximum_append before more key) in
      ap (option_or (cell_at (entries_of rows) key)) none ∙ or_none (cell_at (entries_of rows) key) ∙ stands.cells key ∙ ap (λ n. cell_of n (maximum before key)) totals ∙ ap (cell_of (total (before ++ more) key)) maxima

  both_stand : Standing (before ++ more) (entries_of (rows ++ others))
  both_stand =
      let opened_is : opened before more ≡ opened [] more = ap (λ (b : List KeyLoss). opened b more) (sym (append-nil before)) ∙ opened_apart before [] more (λ key. one_without key (parted key (place_of (row_of key) (row_keys rows)) refl)) in
      record {
        cells = λ key. ap (λ es. cell_at es key) (entries_append rows others) ∙ found_append (entries_of rows) (entries_of others) key ∙ both_cells key (parted key (place_of (row_of key) (row_keys rows)) refl);
        count = omega (arith, ap length (entries_append rows others), length-append (entries_of rows) (entries_of others), stands.count, further.count, opened_append [] before more, opened_is);
      }

  -- and none of the losses of the others is refused
  pub both_clear : ((key : CellKey) → total_in (cell_at (entries_of (rows ++ others)) key) ≤ most_total) → length (entries_of rows) + length (entries_of others) ≤ most_cells → Clear before more (entries_of (rows ++ others))
  both_clear low few =
      clear_in_order before more more (entries_of (rows ++ others)) (same_list more) both_stand low
      (omega (arith, few, ap length (entries_append rows others), length-append (entries_of rows) (entries_of others)))
