-- The losses of a record in another order: row by row in place of pair by pair.
use Rattle.std.proofs.Common.{◌≡◌, ℕ, zero, suc, ◌+◌, ◌<◌, ◌≤◌, List, [], ◌∷◌, ◌++◌, length, map, take, get_or, arith, refl, sym, ap, ◌∙◌, append_assoc, append-nil, cond}
use Rattle.std.specs.Prelude.{Bool, true, false, ◌&&◌, not, max, nat_lt, nat_eq, nat_le, Some, None}
use Rattle.std.specs.List.{flat_map}
use Rattle.std.proofs.lemmas.List.Sums.{sum_by-cons, sum_by-append}
use Rattle.std.proofs.lemmas.Grind.{flat_map-append}
use Rattle.std.proofs.lemmas.List.{take_more}
use Rattle.std.proofs.lemmas.List.Concat.{flat_map-cons}
use Rattle.std.proofs.lemmas.Bool.Decides.{nat_tests}
use Rattle.kt_rec.specs.declared.perspective.Perspective.{Perspective}
use Rattle.kt_rec.specs.declared.perspective.CellKey.{CellKey}
use Rattle.kt_stream.specs.declared.entry.Pair.{Pair}
use Rattle.kt_cell.specs.declared.cell.CellStop.TheVariants as cell_stop
use Rattle.kt_period_cells.specs.declared.rows.Spot.{Spot}
use Rattle.kt_cell.specs.Losses.{KeyLoss, same_key, total, maximum, opens, opened, one_if, cell_count, is_added}
use Rattle.kt_cell.specs.Standing.{stop_at, or_else, first_stop, most_cells, most_total}
use Rattle.kt_period_cells.specs.Rows.{spot_loss, spot_losses}
use Rattle.kt_cell.specs.SameKeys.{same_exact, same_itself}
use Rattle.kt_cell.specs.TotalLaws.{loss_for}
use Rattle.kt_period_cells.proofs.Steps.{total_push}

-- lists that add the same to each total, each maximum and the number of cells
pub record SameLosses (xs ys : List KeyLoss) : Type 0 where
  pub totals : (key : CellKey) → total xs key ≡ total ys key
  pub maxima : (key : CellKey) → maximum xs key ≡ maximum ys key
  pub counts : (before : List KeyLoss) → opened before xs ≡ opened before ys

-- ---- totals, maxima and counts of lists one behind the other

pub total_append : (xs ys : List KeyLoss) (key : CellKey) → total (xs ++ ys) key ≡ total xs key + total ys key
total_append xs ys key = sum_by-append (λ (one : KeyLoss). loss_for one key) xs ys

pub total_first : (one : KeyLoss) (xs : List KeyLoss) (key : CellKey) → total (one ∷ xs) key ≡ loss_for one key + total xs key
total_first one xs key = sum_by-cons (λ (one : KeyLoss). loss_for one key) one xs

pub maximum_append : (xs ys : List KeyLoss) (key : CellKey) → maximum (xs ++ ys) key ≡ max (maximum xs key) (maximum ys key)
maximum_append [] ys key = omega arith
maximum_append (x ∷ xs) ys key = omega (arith, maximum_append xs ys key)

-- a loss opens a cell by the total before
opens_same : (a b : List KeyLoss) (one : KeyLoss) → ((key : CellKey) → total a key ≡ total b key) → opens a one ≡ opens b one
opens_same a b one same = ap (λ n. nat_lt 0 one.loss && nat_eq n 0) (same one.key)

opened_same : (a b xs : List KeyLoss) → ((key : CellKey) → total a key ≡ total b key) → opened a xs ≡ opened b xs
opened_same a b [] same = refl
opened_same a b (x ∷ xs) same =
    let later : opened (a ++ x ∷ []) xs ≡ opened (b ++ x ∷ []) xs = opened_same (a ++ x ∷ []) (b ++ x ∷ []) xs (λ key. total_append a (x ∷ []) key ∙ ap (λ n. n + total (x ∷ []) key) (same key) ∙ sym (total_append b (x ∷ []) key)) in
    omega (arith, later, ap one_if (opens_same a b x same))

pub opened_append : (before xs ys : List KeyLoss) → opened before (xs ++ ys) ≡ opened before xs + opened (before ++ xs) ys
opened_append before [] ys = let same : opened before ys ≡ opened (before ++ []) ys = ap (λ (b : List KeyLoss). opened b ys) (sym (nothing before)) in omega (arith, same)
  where
    nothing : (xs : List KeyLoss) → xs ++ [] ≡ xs
    nothing [] = refl
    nothing (x ∷ xs) = ap (λ ys. x ∷ ys) (nothing xs)
opened_append before (x ∷ xs) ys =
    let later = opened_append (before ++ x ∷ []) xs ys in
    let same : (before ++ x ∷ []) ++ xs ≡ before ++ x ∷ xs = append_assoc before (x ∷ []) xs in
    let moved = rw same at later in
    omega (arith, moved)

-- ---- the same list, and lists with the same behind the same

pub same_list : (xs : List KeyLoss) → SameLosses xs xs
same_list xs = record { totals = λ key. refl; maxima = λ key. refl; counts = λ before. refl }

pub same_then : (xs ys zs : List KeyLoss) → SameLosses xs ys → SameLosses ys zs → SameLosses xs zs
same_then xs ys zs one other = record { totals = λ key. one.totals key ∙ other.totals key; maxima = λ key. one.maxima key ∙ other.maxima key; counts = λ before. one.counts before ∙ other.counts before }

pub same_first : (one : KeyLoss) (xs ys : List KeyLoss) → SameLosses xs ys → SameLosses (one ∷ xs) (one ∷ ys)
same_first one xs ys same =
    record {
      totals = λ key. total_first one xs key ∙ ap (λ n. loss_for one key + n) (same.totals key) ∙ sym (total_first one ys key);
      maxima = λ key. ap (λ n. max (loss_for one key) n) (same.maxima key);
      counts = λ before. ap (λ n. one_if (opens before one) + n) (same.counts (before ++ one ∷ []));
    }

pub same_behind : (front xs ys : List KeyLoss) → SameLosses xs ys → SameLosses (front ++ xs) (front ++ ys)
same_behind [] xs ys same = same
same_behind (one ∷ front) xs ys same = same_first one (front ++ xs) (front ++ ys) (same_behind front xs ys same)

-- ---- two losses in the other order

-- whether two keys are the same, asked the other way round
turned : (a b : CellKey) (same : Bool) → same_key a b ≡ same → same_key b a ≡ same
turned a b true is = let one : a ≡ b = same_exact a b is in rw one (same_itself b)
turned a b false is = by_test (same_key b a) refl
  where
    by_test : (back : Bool) → same_key b a ≡ back → same_key b a ≡ false
    by_test false back = back
    by_test true back = let one : b ≡ a = same_exact b a back in let wrong : same_key a b ≡ true = rw one (same_itself a) in let no : true ≡ false = sym wrong ∙ is in cc

-- how many cells two losses of one key open, and two of different keys
one_key : (t a b : ℕ) → one_if (nat_lt 0 a && nat_eq t 0) + one_if (nat_lt 0 b && nat_eq (t + a) 0) ≡ one_if (nat_lt 0 b && nat_eq t 0) + one_if (nat_lt 0 a && nat_eq (t + b) 0)
one_key (suc t) a b =
    let none : nat_eq (suc t) 0 ≡ false = grind (arith, nat_tests) in
    let more : nat_eq (suc t + a) 0 ≡ false = grind (arith, nat_tests) in
    let other : nat_eq (suc t + b) 0 ≡ false = grind (arith, nat_tests) in
    rw (none, more, other) (by_tests (nat_lt 0 a) (nat_lt 0 b))
  where
    by_tests : (p q : Bool) → one_if (p && false) + one_if (q && false) ≡ one_if (q && false) + one_if (p && false)
    by_tests true true = refl
    by_tests true false = refl
    by_tests false true = refl
    by_tests false false = refl
one_key zero a b = rw (above a, above b) (by_tests (nat_lt 0 a) (nat_lt 0 b))
  where
    above : (n : ℕ) → nat_eq (zero + n) 0 ≡ not (nat_lt 0 n)
    above zero = refl
    above (suc n) =
        let none : nat_eq (zero + suc n) 0 ≡ false = grind (arith, nat_tests) in
        let some : nat_lt 0 (suc n) ≡ true = grind (arith, nat_tests) in
        none ∙ sym (ap not some)

    by_tests : (p q : Bool) → one_if (p && true) + one_if (q && not p) ≡ one_if (q && true) + one_if (p && not q)
    by_tests true true = refl
    by_tests true false = refl
    by_tests false true = refl
    by_tests false false = refl

-- what a loss opens behind another
opens_behind : (before : List KeyLoss) (a b : KeyLoss) → opens (before ++ a ∷ []) b ≡ nat_lt 0 b.loss && nat_eq (total before b.key + cond (same_key a.key b.key) a.loss 0) 0
opens_behind before a b = ap (λ n. nat_lt 0 b.loss && nat_eq n 0) (total_push before a b.key)

two_open : (before : List KeyLoss) (a b : KeyLoss) (same : Bool) → same_key a.key b.key ≡ same → one_if (opens before a) + one_if (opens (before ++ a ∷ []) b) ≡ one_if (opens before b) + one_if (opens (before ++ b ∷ []) a)
two_open before a b true is =
    let key : a.key ≡ b.key = same_exact a.key b.key is in
    let back : same_key b.key a.key ≡ true = turned a.key b.key true is in
    rw (opens_behind before a b, opens_behind before b a, is, back, key) (one_key (total before b.key) a.loss b.loss)
two_open before a b false is =
    let back : same_key b.key a.key ≡ false = turned a.key b.key false is in
    let left : total before b.key + 0 ≡ total before b.key = omega arith in
    let right : total before a.key + 0 ≡ total before a.key = omega arith in
    rw (opens_behind before a b, opens_behind before b a, is, back, left, right) (omega arith)

same_swapped : (a b : KeyLoss) (xs : List KeyLoss) → SameLosses (a ∷ b ∷ xs) (b ∷ a ∷ xs)
same_swapped a b xs =
    record {
      totals = λ key. omega (arith, total_first a (b ∷ xs) key, total_first b xs key, total_first b (a ∷ xs) key, total_first a xs key);
      maxima = λ key. omega arith;
      counts = λ before.
          let rest : opened ((before ++ a ∷ []) ++ b ∷ []) xs ≡ opened ((before ++ b ∷ []) ++ a ∷ []) xs =
          opened_same ((before ++ a ∷ []) ++ b ∷ []) ((before ++ b ∷ []) ++ a ∷ []) xs
          (λ key. let p = total_push (before ++ a ∷ []) b key in let q = total_push before a key in let r = total_push (before ++ b ∷ []) a key in let s = total_push before b key in omega (arith, p, q, r, s)) in
          omega (arith, rest, two_open before a b (same_key a.key b.key) refl);
    }

-- a loss behind others, and losses behind others
same_moved : (a : KeyLoss) (xs ys : List KeyLoss) → SameLosses (a ∷ (xs ++ ys)) (xs ++ a ∷ ys)
same_moved a [] ys = same_list (a ∷ ys)
same_moved a (x ∷ xs) ys = same_then (a ∷ x ∷ (xs ++ ys)) (x ∷ a ∷ (xs ++ ys)) (x ∷ (xs ++ a ∷ ys)) (same_swapped a x (xs ++ ys)) (same_first x (a ∷ (xs ++ ys)) (xs ++ a ∷ ys) (same_moved a xs ys))

same_crossed : (ms xs ys : List KeyLoss) → SameLosses (ms ++ (xs ++ ys)) (xs ++ (ms ++ ys))
same_crossed [] xs ys = same_list (xs ++ ys)
same_crossed (m ∷ ms) xs ys =
    same_then (m ∷ (ms ++ (xs ++ ys))) (m ∷ (xs ++ (ms ++ ys))) (xs ++ m ∷ (ms ++ ys)) (same_first m (ms ++ (xs ++ ys)) (xs ++ (ms ++ ys)) (same_crossed ms xs ys)) (same_moved m xs (ms ++ ys))

-- ---- row by row

module _ (p : Perspective) (s u : ℕ) where
  -- the losses of pairs in one row, and in rows
  abbrev pub in_row : List Pair → Spot → List KeyLoss
  in_row pairs spot = flat_map (spot_losses p s u (spot ∷ [])) pairs

  abbrev pub in_rows : List Pair → List Spot → List KeyLoss
  in_rows pairs spots = flat_map (spot_losses p s u spots) pairs

  -- those in one row more
  row_apart : (spot : Spot) (spots : List Spot) (pairs : List Pair) → SameLosses (in_rows pairs (spot ∷ spots)) (in_row pairs spot ++ in_rows pairs spots)
  row_apart spot spots [] = same_list []
  row_apart spot spots (pair ∷ pairs) =
      rw (flat_map-cons (spot_losses p s u (spot ∷ spots)) pair pairs, flat_map-cons (spot_losses p s u (spot ∷ [])) pair pairs, flat_map-cons (spot_losses p s u spots) pair pairs) (by_test (is_added pair) (row_apart spot spots pairs))
    where
      by_test : (b : Bool) → SameLosses (in_rows pairs (spot ∷ spots)) (in_row pairs spot ++ in_rows pairs spots) →
          SameLosses (cond b (map (spot_loss p s u pair) (spot ∷ spots)) [] ++ in_rows pairs (spot ∷ spots)) ((cond b (map (spot_loss p s u pair) (spot ∷ [])) [] ++ in_row pairs spot) ++ (cond b (map (spot_loss p s u pair) spots) [] ++ in_rows pairs spots))
      by_test false later = later
      by_test true later =
          let more : List KeyLoss = map (spot_loss p s u pair) spots in
          same_first (spot_loss p s u pair spot) (more ++ in_rows pairs (spot ∷ spots)) (in_row pairs spot ++ (more ++ in_rows pairs spots))
          (same_then (more ++ in_rows pairs (spot ∷ spots)) (more ++ (in_row pairs spot ++ in_rows pairs spots)) (in_row pairs spot ++ (more ++ in_rows pairs spots))
          (same_behind more (in_rows pairs (spot ∷ spots)) (in_row pairs spot ++ in_rows pairs spots) later) (same_crossed more (in_row pairs spot) (in_rows pairs spots)))

  -- no rows
  no_row : (pairs : List Pair) → in_rows pairs [] ≡ []
  no_row [] = refl
  no_row (pair ∷ pairs) = flat_map-cons (spot_losses p s u []) pair pairs ∙ by_test (is_added pair) (no_row pairs)
    where
      by_test : (b : Bool) → in_rows pairs [] ≡ [] → cond b (map (spot_loss p s u pair) []) [] ++ in_rows pairs [] ≡ []
      by_test true later = later
      by_test false later = later

  -- the losses of a record, pair by pair and row by row
  pub row_by_row : (pairs : List Pair) (spots : List Spot) → SameLosses (in_rows pairs spots) (flat_map (in_row pairs) spots)
  row_by_row pairs [] = rw (no_row pairs) (same_list [])
  row_by_row pairs (spot ∷ spots) =
      rw (flat_map-cons (in_row pairs) spot spots)
      (same_then (in_rows pairs (spot ∷ spots)) (in_row pairs spot ++ in_rows pairs spots) (in_row pairs spot ++ flat_map (in_row pairs) spots) (row_apart spot spots pairs)
      (same_behind (in_row pairs spot) (in_rows pairs spots) (flat_map (in_row pairs) spots) (row_by_row pairs spots)))

  -- those in one row more, behind others
  pub spots_more : (pairs : List Pair) (spots : List Spot) (i : ℕ) (d : Spot) (before : List KeyLoss) → i < length spots →
      before ++ flat_map (in_row pairs) (take (i + 1) spots) ≡ (before ++ flat_map (in_row pairs) (take i spots)) ++ in_row pairs (get_or spots i d)
  spots_more pairs spots i d before within =
      let spot : Spot = get_or spots i d in
      ap (λ (xs : List Spot). before ++ flat_map (in_row pairs) xs) (take_more spots i d within)
      ∙ ap (λ (ls : List KeyLoss). before ++ ls) (flat_map-append (in_row pairs) (take i spots) (spot ∷ []) ∙ ap (λ (ls : List KeyLoss). flat_map (in_row pairs) (take i spots) ++ ls) (flat_map-cons (in_row pairs) spot [] ∙ append-nil (in_row pairs spot)))
      ∙ sym (append_assoc before (flat_map (in_row pairs) (take i spots)) (in_row pairs spot))

-- ---- no loss is refused where the whole is within the limits

-- no cause where there is room
no_stop : (b : Bool) (held t : ℕ) (key : CellKey) (loss : ℕ) → (b ≡ true → held < most_cells) → t + loss ≤ most_total →
    cond (b && nat_le most_cells held) (Some (cell_stop.Cells held)) (cond (nat_lt most_total (t + loss)) (Some (cell_stop.Period key t loss)) None) ≡ None
no_stop b held t key loss few room =
    let low : nat_lt most_total (t + loss) ≡ false = grind (arith, nat_tests) in
    ap (λ c. cond (b && nat_le most_cells held) (Some (cell_stop.Cells held)) (cond c (Some (cell_stop.Period key t loss)) None)) low ∙ by_test b few
  where
    by_test : (b : Bool) → (b ≡ true → held < most_cells) → cond (b && nat_le most_cells held) (Some (cell_stop.Cells held)) None ≡ None
    by_test false few = refl
    by_test true few = let below : held < most_cells = few refl in let under : nat_le most_cells held ≡ false = grind (arith, nat_tests) in ap (λ c. cond c (Some (cell_stop.Cells held)) None) under

pub within_clear : (before xs : List KeyLoss) → ((key : CellKey) → total (before ++ xs) key ≤ most_total) → cell_count (before ++ xs) ≤ most_cells → first_stop before xs ≡ None
within_clear before [] totals cells = refl
within_clear before (x ∷ xs) totals cells =
    let same : (before ++ x ∷ []) ++ xs ≡ before ++ x ∷ xs = append_assoc before (x ∷ []) xs in
    let later : first_stop (before ++ x ∷ []) xs ≡ None = within_clear (before ++ x ∷ []) xs (rw same totals) (rw same cells) in
    let own : loss_for x x.key ≡ x.loss = ap (λ b. cond b x.loss 0) (same_itself x.key) in
    let room : total before x.key + x.loss ≤ most_total = omega (arith, own, totals x.key, total_append before (x ∷ xs) x.key, total_first x xs x.key) in
    let count : cell_count (before ++ x ∷ xs) ≡ cell_count before + opened before (x ∷ xs) = opened_append [] before (x ∷ xs) in
    let here : stop_at before x ≡ None = no_stop (opens before x) (cell_count before) (total before x.key) x.key x.loss (λ opens_here. let one : one_if (opens before x) ≡ 1 = ap one_if opens_here in omega (arith, count, one, cells)) room in
    ap (λ o. or_else o (first_stop (before ++ x ∷ []) xs)) here ∙ later
