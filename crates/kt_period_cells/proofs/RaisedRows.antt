-- The losses of pairs, added to one row of many.
use Rattle.std.proofs.Common.{◌≡◌, ℕ, zero, suc, ◌+◌, ◌<◌, ◌≤◌, List, [], ◌∷◌, ◌++◌, length, take, map, get_or, set, arith, refl, sym, ap, ◌∙◌, append_assoc, append-nil, length-append, cond, Some, Option}
use Rattle.std.specs.Prelude.{Bool, true, false, nat_lt, All, ℤ, pos, negsuc, ◌≤ℤ◌}
use Rattle.std.specs.List.{flat_map}
use Rattle.std.proofs.lemmas.Bool.{and_parts}
use Rattle.std.proofs.lemmas.Bool.Decides.{nat_tests}
use Rattle.std.proofs.lemmas.Grind.{flat_map-append}
use Rattle.std.proofs.lemmas.List.{get_or-set_same, take_more}
use Rattle.std.proofs.lemmas.List.Concat.{flat_map-cons}
use Rattle.std.proofs.lemmas.List.Sums.{sum_by_push, sum_by-take-le}
use Rattle.std.proofs.lemmas.List.Elements.{All-head, All-tail, All-weaker}
use Rattle.kt_rec.specs.declared.perspective.Perspective.{Perspective}
use Rattle.kt_rec.specs.declared.perspective.CellKey.{CellKey}
use Rattle.kt_stream.specs.declared.entry.Pair.{Pair}
use Rattle.kt_cell.specs.declared.cell.Cell.{Cell}
use Rattle.kt_period_cells.specs.declared.row.Row.{Row}
use Rattle.kt_period_cells.specs.declared.row_key.RowKey.{RowKey}
use Rattle.kt_period_cells.specs.declared.rows.Spot.{Spot}
use Rattle.kt_cell.specs.Amounts.{sample_of}
use Rattle.kt_period_cells.specs.Journal.{Clear}
use Rattle.kt_cell.specs.Losses.{KeyLoss, key_of, same_key, has_cells, is_added, total, maximum, opened}
use Rattle.kt_period_cells.specs.Room.{Raises, added_sum}
use Rattle.kt_period_cells.specs.RowCells.{AreLow, SampleCells, cells_of, cell_in, IsWide, Changes, placed}
use Rattle.kt_period_cells.specs.Rows.{Apart, entries_of, key_in, place_of, row_entries, row_for, row_keys, spot_loss, spot_losses}
use Rattle.kt_cell.specs.Standing.{FitsCells, Standing, cell_at, cell_of, most_cells, most_total, raised, sidx_in_range, total_in, one_of}
use Rattle.kt_cell.specs.TotalLaws.{added_some, total_of_cell}
use Rattle.kt_period_cells.proofs.PlacedCells.{placed_cells}
use Rattle.kt_period_cells.proofs.Places.{keys_set, placed_within}
use Rattle.kt_period_cells.proofs.Puts.{count_put}
use Rattle.kt_period_cells.proofs.RoomLemmas.{raised_within, roomy_cell}
use Rattle.kt_period_cells.proofs.RowBounds.{fits_changed, fits_same, found_bounds}
use Rattle.kt_period_cells.proofs.RowKeys.{sample_within}
use Rattle.kt_period_cells.proofs.SameLosses.{SameLosses, total_append, maximum_append, opened_append, within_clear}
use Rattle.kt_period_cells.proofs.Steps.{extra, standing_push}
use Rattle.kt_period_cells.proofs.Tables.{cell_is, cells_changed, entries_same}

-- a sidx that is added up is within the samples where it is at most their number
in_range : (samples : ℕ) (x : ℤ) → has_cells x ≡ true → x ≤ℤ pos samples → sidx_in_range samples x ≡ true
in_range samples (pos zero) has low = cc
in_range samples (pos (suc k)) has low = grind (arith, nat_tests)
in_range samples (negsuc zero) has low = refl
in_range samples (negsuc (suc k)) has low = cc

pub added_in_range : (samples : ℕ) (pair : Pair) → is_added pair ≡ true → pair.sidx ≤ℤ pos samples → sidx_in_range samples pair.sidx ≡ true
added_in_range samples pair added low = in_range samples pair.sidx (and_parts (has_cells pair.sidx) (nat_lt 0 pair.loss) added).0 low

-- so it has a place
pub added_place : (samples : ℕ) (pair : Pair) (cs : List Cell) → is_added pair ≡ true → pair.sidx ≤ℤ pos samples → length cs ≡ samples + 1 → sample_of pair.sidx < length cs
added_place samples pair cs added low len = omega (arith, len, sample_within samples pair.sidx (added_in_range samples pair added low))

-- places for all samples
pub wide_length : (samples : ℕ) (cs : List Cell) → 1 ≤ length cs → IsWide samples cs → length cs ≡ samples + 1
wide_length samples [] some wide = absurd (omega (arith, some))
wide_length samples (x ∷ cs) some wide = wide

-- a row in place of another that stood in place of a third
pub set_again : {X : Type 0} (xs : List X) (i : ℕ) (x y : X) → set (set xs i x) i y ≡ set xs i y
set_again [] i x y = refl
set_again (z ∷ xs) zero x y = refl
set_again (z ∷ xs) (suc i) x y = ap (λ ys. z ∷ ys) (set_again xs i x y)

-- the sum of one pair more
sum_push : (pairs : List Pair) (pair : Pair) → added_sum (pairs ++ pair ∷ []) ≡ added_sum pairs + cond (is_added pair) pair.loss 0
sum_push pairs pair = sum_by_push (λ (pair : Pair). cond (is_added pair) pair.loss 0) pairs pair

-- rows with one key and the same cells have the same entries
same_entries : (old new : Row) → new.key ≡ old.key → cells_of new ≡ cells_of old → row_entries new ≡ row_entries old
same_entries old new key cells = ap (λ (k : RowKey). map (λ one. (key_in k one.0, one.1)) (cells_of new)) key ∙ ap (λ (cs : SampleCells). map (λ one. (key_in old.key one.0, one.1)) cs) cells

module _ (samples : ℕ) where
  -- no pair: a row with the key and the places of another
  pub raises_none : (old new : Row) → 1 ≤ length old.places.items → new.key ≡ old.key → new.places.items ≡ old.places.items → Raises samples old new [] 0
  raises_none old new some key places =
      let cells : cells_of new ≡ cells_of old = placed_cells new (omega (arith, some, ap length places)) ∙ ap (placed 0) places ∙ sym (placed_cells old some) in
      record {
        key = key;
        len = ap length places;
        count = omega (arith, ap length cells);
        few = omega arith;
        fits = λ periods fits. fits_same periods samples old new fits key places cells;
        totals = λ most low. rw places (All-weaker (λ (one : Cell). one.total ≤ most) (λ (one : Cell). one.total ≤ most + 0) (λ one high. omega (arith, high)) old.places.items low);
        room = λ more room. rw places (All-weaker (λ (one : Cell). one.total + (0 + more) ≤ most_total) (λ (one : Cell). one.total + more ≤ most_total) (λ one high. omega (arith, high)) old.places.items room);
        adds = λ rows place p s u period before apart found is stands. rw (entries_same rows place old new is (same_entries old new key cells), append-nil before) stands;
      }

  -- the losses of pairs in one row, with one pair more
  losses_more : (p : Perspective) (s u : ℕ) (spot : Spot) (pairs : List Pair) (pair : Pair) (before further : List KeyLoss) → spot_losses p s u (spot ∷ []) pair ≡ further →
      before ++ flat_map (spot_losses p s u (spot ∷ [])) (pairs ++ pair ∷ []) ≡ (before ++ flat_map (spot_losses p s u (spot ∷ [])) pairs) ++ further
  losses_more p s u spot pairs pair before further is =
      let f : Pair → List KeyLoss = spot_losses p s u (spot ∷ []) in
      ap (λ (ls : List KeyLoss). before ++ ls) (flat_map-append f pairs (pair ∷ []) ∙ ap (λ (ls : List KeyLoss). flat_map f pairs ++ ls) (flat_map-cons f pair [] ∙ append-nil (f pair) ∙ is)) ∙ sym (append_assoc before (flat_map f pairs) further)

  -- a pair that is passed over
  pub raises_passed : (old mid : Row) (pairs : List Pair) (pair : Pair) (n : ℕ) → is_added pair ≡ false → Raises samples old mid pairs n → Raises samples old mid (pairs ++ pair ∷ []) n
  raises_passed old mid pairs pair n passed so_far =
      let sum : added_sum (pairs ++ pair ∷ []) ≡ added_sum pairs + 0 = sum_push pairs pair ∙ ap (λ b. added_sum pairs + cond b pair.loss 0) passed in
      record {
        key = so_far.key;
        len = so_far.len;
        count = so_far.count;
        few = omega (arith, so_far.few, length-append pairs (pair ∷ []));
        fits = so_far.fits;
        totals = λ most low. All-weaker (λ (one : Cell). one.total ≤ most + added_sum pairs) (λ (one : Cell). one.total ≤ most + added_sum (pairs ++ pair ∷ [])) (λ one high. omega (arith, high, sum)) mid.places.items (so_far.totals most low);
        room = λ more room. so_far.room more (All-weaker (λ (one : Cell). one.total + (added_sum (pairs ++ pair ∷ []) + more) ≤ most_total) (λ (one : Cell). one.total + (added_sum pairs + more) ≤ most_total) (λ one high. omega (arith, high, sum)) old.places.items room);
        adds = λ rows place p s u period before apart found is stands.
            let spot : Spot = record { period = period; row = place } in
            let none : spot_losses p s u (spot ∷ []) pair ≡ [] = nothing (is_added pair) (spot_loss p s u pair spot) passed in
            let same = losses_more p s u spot pairs pair before [] none ∙ append-nil (before ++ flat_map (spot_losses p s u (spot ∷ [])) pairs) in
            rw same (so_far.adds rows place p s u period before apart found is stands);
      }
    where
      nothing : (b : Bool) (one : KeyLoss) → b ≡ false → cond b (one ∷ []) [] ≡ []
      nothing false one e = refl
      nothing true one e = cc

  -- a pair that is added up
  pub raises_more : (old mid new : Row) (pairs : List Pair) (pair : Pair) (n m : ℕ) → is_added pair ≡ true → pair.sidx ≤ℤ pos samples → Raises samples old mid pairs n →
      Changes mid new (sample_of pair.sidx) (Some (raised (cell_in (cells_of mid) (sample_of pair.sidx)) pair.loss)) → length new.places.items ≡ length mid.places.items →
      total_in (cell_in (cells_of mid) (sample_of pair.sidx)) + pair.loss ≤ most_total →
      ((more : ℕ) → All (λ one. one.total + (pair.loss + more) ≤ most_total) mid.places.items → All (λ one. one.total + more ≤ most_total) new.places.items) →
      ((most : ℕ) → AreLow most mid.places.items → AreLow (most + pair.loss) new.places.items) →
      m + one_of (cell_in (cells_of mid) (sample_of pair.sidx)) ≡ n + 1 → Raises samples old new (pairs ++ pair ∷ []) m
  raises_more old mid new pairs pair n m added low so_far changes len fit room_more totals_more opened_is =
      let sample : ℕ = sample_of pair.sidx in
      let was : Option Cell = cell_in (cells_of mid) sample in
      let some : 1 ≤ pair.loss = added_some pair added in
      let within = added_in_range samples pair added low in
      let sum : added_sum (pairs ++ pair ∷ []) ≡ added_sum pairs + pair.loss = sum_push pairs pair ∙ ap (λ b. added_sum pairs + cond b pair.loss 0) added in
      record {
        key = changes.key ∙ so_far.key;
        len = len ∙ so_far.len;
        count = omega (arith, changes.count, so_far.count, opened_is);
        few = omega (arith, so_far.few, opened_is, length-append pairs (pair ∷ []));
        fits = λ periods fits.
            let middle = so_far.fits periods fits in
            fits_changed periods samples sample mid new (Some (raised was pair.loss)) middle changes (raised_within samples sample pair.loss was (sample_within samples pair.sidx within) some fit (found_bounds samples sample (cells_of mid) middle.cells).1);
        totals = λ most low. All-weaker (λ (one : Cell). one.total ≤ most + added_sum pairs + pair.loss) (λ (one : Cell). one.total ≤ most + added_sum (pairs ++ pair ∷ [])) (λ one high. omega (arith, high, sum)) new.places.items (totals_more (most + added_sum pairs) (so_far.totals most low));
        room = λ more room. room_more more (so_far.room (pair.loss + more) (All-weaker (λ (one : Cell). one.total + (added_sum (pairs ++ pair ∷ []) + more) ≤ most_total) (λ (one : Cell). one.total + (added_sum pairs + (pair.loss + more)) ≤ most_total) (λ one high. omega (arith, high, sum)) old.places.items room));
        adds = λ rows place p s u period before apart found is stands.
            let spot : Spot = record { period = period; row = place } in
            let key : CellKey = key_of p s u pair.sidx period in
            let one : KeyLoss = record { key = key; loss = pair.loss } in
            let losses : List KeyLoss = before ++ flat_map (spot_losses p s u (spot ∷ [])) pairs in
            let inside : place < length rows = placed_within (row_for p s u period) rows place found in
            let middle : List Row = set rows place mid in
            let keys : row_keys middle ≡ row_keys rows = keys_set rows place old mid is so_far.key in
            let apart_middle : Apart (row_keys middle) = rw keys apart in
            let found_middle : place_of (row_for p s u period) (row_keys middle) ≡ Some place = rw keys found in
            let is_middle : mid ≡ get_or middle place mid = sym (get_or-set_same rows place mid mid inside) in
            let again : set middle place new ≡ set rows place new = set_again rows place mid new in
            let here : was ≡ cell_at (entries_of middle) key = cell_is samples middle key place mid apart_middle found_middle is_middle within in
            let stands_middle : Standing losses (entries_of middle) = so_far.adds rows place p s u period before apart found is stands in
            let all : Standing (losses ++ one ∷ []) (entries_of (set middle place new)) =
            standing_push losses (entries_of middle) (entries_of (set middle place new)) key pair.loss some stands_middle
            (λ q. cells_changed samples sample middle key place mid new (Some (raised was pair.loss)) apart_middle found_middle is_middle within refl changes q ∙ ap (λ (o : Option Cell). cond (same_key key q) (Some (raised o pair.loss)) (cell_at (entries_of middle) q)) here)
            (count_put middle place sample mid new (raised was pair.loss) was (placed_within (row_for p s u period) middle place found_middle) is_middle changes refl ∙ ap (λ (o : Option Cell). length (entries_of middle) + extra o) here) in
            rw (losses_more p s u spot pairs pair before (one ∷ []) (single (is_added pair) one added), ← again) all;
      }
    where
      single : (b : Bool) (one : KeyLoss) → b ≡ true → cond b (one ∷ []) [] ≡ one ∷ []
      single true one e = refl
      single false one e = cc

  -- what is left of the room for the next pair
  pub room_left : (old mid : Row) (pairs : List Pair) (i n : ℕ) (d : Pair) → i < length pairs → is_added (get_or pairs i d) ≡ true → All (λ one. one.total + added_sum pairs ≤ most_total) old.places.items → Raises samples old mid (take i pairs) n →
      All (λ one. one.total + (get_or pairs i d).loss ≤ most_total) mid.places.items
  room_left old mid pairs i n d within added room so_far =
      let loss : ℕ = (get_or pairs i d).loss in
      let next : added_sum (take (i + 1) pairs) ≡ added_sum (take i pairs) + loss = ap added_sum (take_more pairs i d within) ∙ sum_push (take i pairs) (get_or pairs i d) ∙ ap (λ b. added_sum (take i pairs) + cond b loss 0) added in
      let whole : added_sum (take (i + 1) pairs) ≤ added_sum pairs = sum_by-take-le (λ (pair : Pair). cond (is_added pair) pair.loss 0) pairs (i + 1) in
      so_far.room loss (All-weaker (λ (one : Cell). one.total + added_sum pairs ≤ most_total) (λ (one : Cell). one.total + (added_sum (take i pairs) + loss) ≤ most_total) (λ one high. omega (arith, high, next, whole)) old.places.items room)

-- the total of a sample has room
pub total_left : (row : Row) (s loss : ℕ) → s < length row.places.items → All (λ one. one.total + loss ≤ most_total) row.places.items → total_in (cell_in (cells_of row) s) + loss ≤ most_total
total_left row s loss within room = roomy_cell loss row s (record { total = 0; maximum = 0 }) within (record { some = omega (arith, within); room = room })

-- ---- a record

-- the totals of entries within their bounds
pub entries_low : (periods samples : ℕ) (es : List (CellKey × Cell)) (key : CellKey) → All (λ (e : CellKey × Cell). FitsCells periods samples e.0 e.1) es → total_in (cell_at es key) ≤ most_total
entries_low periods samples [] key fits = omega arith
entries_low periods samples (e ∷ es) key fits =
    by_test (same_key key e.0) (All-head (λ (e : CellKey × Cell). FitsCells periods samples e.0 e.1) e es fits) (entries_low periods samples es key (All-tail (λ (e : CellKey × Cell). FitsCells periods samples e.0 e.1) e es fits))
  where
    by_test : (b : Bool) → FitsCells periods samples e.0 e.1 → total_in (cell_at es key) ≤ most_total → total_in (cond b (Some e.1) (cell_at es key)) ≤ most_total
    by_test true here later = here.most
    by_test false here later = later

-- entries that stand for the losses of a record in one order stand for them in another, and none is refused where all is within the limits
pub clear_in_order : (before xs ys : List KeyLoss) (es : List (CellKey × Cell)) → SameLosses xs ys → Standing (before ++ ys) es → ((key : CellKey) → total_in (cell_at es key) ≤ most_total) → length es ≤ most_cells → Clear before xs es
clear_in_order before xs ys es same stands totals few =
    let total_is : (key : CellKey) → total (before ++ xs) key ≡ total (before ++ ys) key = λ key. total_append before xs key ∙ ap (λ n. total before key + n) (same.totals key) ∙ sym (total_append before ys key) in
    let maximum_is : (key : CellKey) → maximum (before ++ xs) key ≡ maximum (before ++ ys) key = λ key. omega (arith, maximum_append before xs key, maximum_append before ys key, same.maxima key) in
    let count_is : opened [] (before ++ xs) ≡ opened [] (before ++ ys) = omega (arith, opened_append [] before xs, opened_append [] before ys, same.counts before) in
    record {
      stands = record {
        cells = λ key. stands.cells key ∙ ap (λ n. cell_of n (maximum (before ++ ys) key)) (sym (total_is key)) ∙ ap (λ n. cell_of (total (before ++ xs) key) n) (sym (maximum_is key));
        count = stands.count ∙ sym count_is;
      };
      clear = within_clear before xs (λ key. let here : total_in (cell_at es key) ≡ total (before ++ ys) key = ap total_in (stands.cells key) ∙ total_of_cell (total (before ++ ys) key) (maximum (before ++ ys) key) in omega (arith, here, totals key, total_is key)) (omega (arith, stands.count, count_is, few));
    }
