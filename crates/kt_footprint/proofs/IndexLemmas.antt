-- The index of rows in range and in order is itself in range, and its events are distinct.
use Rattle.std.proofs.Common.{◌≡◌, ℕ, ◌+◌, ◌*◌, ◌<◌, ◌≤◌, Bool, true, false, cond, List, [], ◌∷◌, length, map, refl, ap, subst, ◌∙◌, arith}
use Rattle.std.specs.Prelude.{◌==◌, nat_eq, nat_lt, if◌then◌else◌, Ok, Err}
use Rattle.std.specs.List.{AllByRecursion, IsDistinct, filter}
use Rattle.std.proofs.lemmas.Bool.{eq-eqb, eqb-false, eqb-true, le-ltb, ltb-false}
use Rattle.std.proofs.lemmas.Bool.Decides.{nat_tests}
use Rattle.std.proofs.lemmas.List.{length-append}
use Rattle.kt_rec.specs.Ranges.{IsFootprintIdx, IsId}
use Rattle.kt_rec.specs.declared.hazard.FootprintIdx.{FootprintIdx}
use Rattle.kt_rec.specs.declared.table.Table.TheVariants as table
use Rattle.kt_rec.specs.Kinds.{in_range, within}
use Rattle.kt_rec.specs.declared.kind.Kind.TheVariants as kind
use Rattle.kt_rec.specs.declared.cause.Cause.TheVariants as cause
use Rattle.kt_cells.specs.Ranges.{AreInOrder, AreRows, IsRow}
use Rattle.kt_cells.specs.Records.{record_bytes, records_bytes}
use Rattle.kt_schema.specs.Footprint.{IsEntryOf}
use Rattle.kt_schema.specs.Index.{event_of, index_from, index_of, index_row}
use Rattle.kt_schema.specs.Rows.{footprint_idx_values}
use Rattle.kt_schema.specs.Tables.{kinds_of}
use Rattle.kt_load.specs.Typed.{row_from}
use Rattle.kt_footprint.specs.GoRound.{rows_of_event}

-- a value that is within bounds
within-ok : (least most value : ℕ) → least ≤ value → value ≤ most → within least most value ≡ Ok value
within-ok least most value low high = rw (le-ltb value least low, le-ltb most value high) refl

-- an id, from its kind and back
id-from_kind : (value : ℕ) → in_range kind.Id value ≡ Ok value → IsId value
unfolding in_range
id-from_kind value is = by (nat_lt value 1) (nat_lt 2147483647 value) refl refl is
  where
    by : (low high : Bool) → nat_lt value 1 ≡ low → nat_lt 2147483647 value ≡ high → (if low then Err cause.Zero else if high then Err cause.TooLarge else Ok value) ≡ Ok value → IsId value
    by true high l h is = cc
    by false true l h is = cc
    by false false l h is = record { least = ltb-false value 1 l; most = ltb-false 2147483647 value h }

-- the values of entries in range are in the ranges of their kinds
pub entries-ranged : (index : List FootprintIdx) → AllByRecursion IsFootprintIdx index → AreRows (kinds_of table.FootprintIdx) (map footprint_idx_values index)
unfolding AreRows IsRow in_range
entries-ranged [] ranges = tt
entries-ranged (entry ∷ index) ranges =
    let first = ranges.0 in
    let id = first.event_id in
    ((within-ok 1 2147483647 entry.event_id id.least id.most, (within-ok 0 1099511627776 entry.offset (omega arith) first.offset, (within-ok 0 1099511627776 entry.size (omega arith) first.size, tt))), entries-ranged index ranges.1)

-- entries with ids that lie in a file of few bytes are in range
pub entries-in_range : (bytes : ℕ) (index : List FootprintIdx) → bytes ≤ 1073741824 → AllByRecursion (λ entry. IsId entry.event_id) index → AllByRecursion (IsEntryOf bytes) index → AllByRecursion IsFootprintIdx index
entries-in_range bytes [] few ids entries = tt
entries-in_range bytes (entry ∷ index) few ids entries =
    let within = entries.0.within in
    (record { event_id = ids.0; offset = omega arith; size = omega arith }, entries-in_range bytes index few ids.1 entries.1)

-- the file of an index has 20 bytes an entry
pub index-long : (index : List FootprintIdx) → length (records_bytes (kinds_of table.FootprintIdx) (map footprint_idx_values index)) ≡ 20 * length index
unfolding records_bytes record_bytes
index-long [] = refl
index-long (entry ∷ index) =
    omega (arith, length-append (record_bytes (kinds_of table.FootprintIdx) (footprint_idx_values entry)) (records_bytes (kinds_of table.FootprintIdx) (map footprint_idx_values index)), one entry, index-long index)
  where
    one : (each : FootprintIdx) → length (record_bytes (kinds_of table.FootprintIdx) (footprint_idx_values each)) ≡ 20
    one each = refl

-- rows of an index from an event on: they are those of entries with ids, of few bytes each, and of events that rise
pub record IsIndex (event : ℕ) (entries : List (List ℕ)) : Type 0 where
  pub values : map footprint_idx_values (map (row_from table.FootprintIdx) entries) ≡ entries
  pub ids : AllByRecursion (λ entry. IsId entry.event_id) (map (row_from table.FootprintIdx) entries)
  pub few : AllByRecursion (λ entry. entry.size ≤ 1200000) (map (row_from table.FootprintIdx) entries)
  pub above : AllByRecursion (λ key. event ≤ key) (map (λ entry. entry.event_id) (map (row_from table.FootprintIdx) entries))
  pub distinct : IsDistinct nat_eq (map (λ entry. entry.event_id) (map (row_from table.FootprintIdx) entries))

-- no entry
pub index-none : (event : ℕ) → IsIndex event []
unfolding IsDistinct
index-none event = record { values = refl; ids = tt; few = tt; above = tt; distinct = tt }

-- what is from a later number on is from an earlier one on, and is none of those before
later-above : (event next : ℕ) (keys : List ℕ) → event < next → AllByRecursion (λ key. next ≤ key) keys → AllByRecursion (λ key. event ≤ key) keys × AllByRecursion (λ key. nat_eq event key ≡ false) keys
later-above event next [] less above = (tt, tt)
later-above event next (key ∷ keys) less above =
    let rest = later-above event next keys less above.1 in
    let far : next ≤ key = above.0 in
    ((omega arith, rest.0), (apart event key (omega arith), rest.1))
  where
    apart : (a b : ℕ) → a < b → nat_eq a b ≡ false
    apart a b h = grind (arith, nat_tests)

-- one entry in front of those of later events
index-more : (event offset size next : ℕ) (entries : List (List ℕ)) → IsId event → size ≤ 1200000 → event < next → IsIndex next entries → IsIndex event (index_row event offset size ∷ entries)
unfolding IsDistinct
index-more event offset size next entries id few less rest =
    let later = later-above event next (map (λ entry. entry.event_id) (map (row_from table.FootprintIdx) entries)) less rest.above in
    record {
      values = ap (λ (all : List (List ℕ)). index_row event offset size ∷ all) rest.values;
      ids = (id, rest.ids);
      few = (few, rest.few);
      above = (omega arith, later.0);
      distinct = (later.1, rest.distinct);
    }

-- the events of rows in range are ids
event-id : (row : List ℕ) → IsRow 0 (kinds_of table.Footprint) row → IsId (event_of row)
unfolding IsRow
event-id [] range = absurd range
event-id (event ∷ row) range = id-from_kind event range.0

-- the rows of an event behind one of it, and behind one of another
count-same : (event : ℕ) (row : List ℕ) (rows : List (List ℕ)) → (event_of row == event) ≡ true → rows_of_event event (row ∷ rows) ≡ rows_of_event event rows + 1
count-same event row rows is = ap (λ b. length (cond b (row ∷ filter (λ x. event_of x == event) rows) (filter (λ x. event_of x == event) rows))) is ∙ omega arith

count-less : (event : ℕ) (row : List ℕ) (rows : List (List ℕ)) → rows_of_event event rows ≤ rows_of_event event (row ∷ rows)
count-less event row rows = by (event_of row == event)
  where
    by : (b : Bool) → rows_of_event event rows ≤ length (cond b (row ∷ filter (λ x. event_of x == event) rows) (filter (λ x. event_of x == event) rows))
    by true = omega arith
    by false = omega arith

-- the index of rows of an event so far, and of those that follow
from-is : (rows : List (List ℕ)) (event offset size : ℕ) → IsId event → AreRows (kinds_of table.Footprint) rows → AreInOrder true event rows → size + 12 * rows_of_event event rows ≤ 1200000 → ((other : ℕ) → 12 * rows_of_event other rows ≤ 1200000) → IsIndex event (index_from event offset size rows)
unfolding AreRows AreInOrder index_from
from-is [] event offset size id range order here each = index-more event offset size (event + 1) [] id (omega arith) (omega arith) (index-none (event + 1))
from-is (row ∷ rows) event offset size id range order here each = by (event_of row == event) refl
    (λ is. from-is rows event offset (size + 12) id range.1 (subst (λ n. AreInOrder true n rows) (eqb-true (event_of row) event is) order.1) (omega (arith, here, count-same event row rows is)) fewer)
    (from-is rows (event_of row) (offset + size) 12 (event-id row range.0) range.1 order.1 (omega (arith, each (event_of row), count-same (event_of row) row rows (eq-eqb (event_of row) (event_of row) refl))) fewer)
  where
    fewer : (other : ℕ) → 12 * rows_of_event other rows ≤ 1200000
    fewer other = omega (arith, each other, count-less other row rows)

    by : (b : Bool) → (event_of row == event) ≡ b → ((event_of row == event) ≡ true → IsIndex event (index_from event offset (size + 12) rows)) → IsIndex (event_of row) (index_from (event_of row) (offset + size) 12 rows) → IsIndex event (if b then index_from event offset (size + 12) rows else (index_row event offset size ∷ index_from (event_of row) (offset + size) 12 rows))
    by true is same next = same is
    by false is same next =
        let least : event ≤ event_of row = order.0 in
        let other = eqb-false (event_of row) event is in
        index-more event offset size (event_of row) (index_from (event_of row) (offset + size) 12 rows) id (omega (arith, here)) (omega (arith, least, other)) next

-- the index of a footprint
pub index-is : (rows : List (List ℕ)) → AreRows (kinds_of table.Footprint) rows → AreInOrder true 0 rows → ((other : ℕ) → rows_of_event other rows ≤ 100000) → IsIndex 0 (index_of rows)
unfolding AreRows AreInOrder index_of
index-is [] range order each = index-none 0
index-is (row ∷ rows) range order each =
    let first = event-id row range.0 in
    let is = from-is rows (event_of row) 16 12 first range.1 order.1 (omega (arith, each (event_of row), count-same (event_of row) row rows (eq-eqb (event_of row) (event_of row) refl))) (λ other. omega (arith, each other, count-less other row rows)) in
    record { values = is.values; ids = is.ids; few = is.few; above = all-from_zero _; distinct = is.distinct }
  where
    all-from_zero : (keys : List ℕ) → AllByRecursion (λ key. 0 ≤ key) keys
    all-from_zero [] = tt
    all-from_zero (key ∷ keys) = (omega arith, all-from_zero keys)
