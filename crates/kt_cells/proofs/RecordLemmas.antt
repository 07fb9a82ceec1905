-- Records as bytes: their widths, how far one is read, and the rows that some give.
use Rattle.std.proofs.Common.{◌≡◌, ℕ, zero, suc, ◌+◌, ◌*◌, ◌<◌, ◌≤◌, false, List, [], ◌∷◌, length, take, drop, get_or, refl, sym, ap, ◌∙◌, arith, length-drop}
use Rattle.std.specs.Prelude.{Result, Ok, Err, slice_set, Bool, true, ◌==◌, ◌%◌, if◌then◌else◌}
use Rattle.std.proofs.lemmas.Bool.{ne_eqb}
use Rattle.std.proofs.lemmas.Bool.Decides.{nat_tests}
use Rattle.std.proofs.lemmas.List.{at_drop_all, at_drop_more, length-take-le}
use Rattle.std.proofs.lemmas.Grind.{take-set_at}
use Rattle.std.proofs.Math.Nat.{div-eq-sub-div, mod-eq-sub-mod, div-eq_of_lt, mod-eq_of_lt, mul-div_cancel, mul-mod_left}
use Rattle.byteorder.specs.Endian.{little_number}
use Rattle.byteorder.specs.Numbers.{little_from-take}
use Rattle.kt_rec.specs.Kinds.{under, width, in_range}
use Rattle.kt_cells.specs.Ranges.{IsRow, AreRows}
use Rattle.kt_cells.specs.Reading.{and_then, and_then-ok, behind, in_front, not_below, value_from, rule_after, row_values, table_rows}
use Rattle.kt_cells.specs.Records.{record_width, record_fields, records_in, field_value, record_rows, records_behind, record_count, whole_records}
use Rattle.kt_rec.specs.declared.kind.Kind.{Kind}
use Rattle.kt_rec.specs.declared.cause.Cause.{Cause}
use Rattle.kt_cells.specs.declared.stop.TableStop.{TableStop}
use Rattle.kt_cells.specs.declared.stop.TableStop.TheVariants.{Bad, CutRecord}
use Rattle.kt_cells.proofs.KindLemmas.{kind-facts, field_value-range}
use Rattle.kt_cells.proofs.RangeLemmas.{AreRead, not_below-above, length-rows, row-read, row-range, rows-range, rows-read, read-rows, in_order-any}
use Rattle.kt_cells.specs.Fronts.{RowRead}
use Rattle.kt_cells.proofs.ReadingLemmas.{behind-in_front, row-more, row-stops, table_rows-row, table_rows-stops}

-- a record takes at most eight bytes a column
pub record_width-most : (kinds : List Kind) → record_width kinds ≤ 8 * length kinds
unfolding record_width
record_width-most [] = omega arith
record_width-most (kind ∷ kinds) = omega (arith, record_width-most kinds, (kind-facts 0 kind).wide)

-- and one at least
pub record_width-some : (kinds : List Kind) → 0 < length kinds → 0 < record_width kinds
unfolding record_width
record_width-some [] some = omega arith
record_width-some (kind ∷ kinds) some = omega (arith, (kind-facts 0 kind).narrow)

-- a column more
pub record_width-more : (kinds : List Kind) (done : ℕ) (d : Kind) → done < length kinds → record_width (drop done kinds) ≡ width (get_or kinds done d) + record_width (drop (done + 1) kinds)
unfolding record_width
record_width-more kinds done d column = at_drop_more record_width kinds done d column

-- no column is left
pub record_width-end : (kinds : List Kind) (done : ℕ) → length kinds ≤ done → record_width (drop done kinds) ≡ 0
unfolding record_width
record_width-end kinds done last = at_drop_all record_width kinds done last

-- the fields of a record are as many as its columns
length-record_fields : (kinds : List Kind) (bytes : List ℕ) → length (record_fields kinds bytes) ≡ length kinds
unfolding record_fields
length-record_fields [] bytes = refl
length-record_fields (kind ∷ kinds) bytes = ap suc (length-record_fields kinds (drop (width kind) bytes))

-- there are so many records
length-records_in : (kinds : List Kind) (count : ℕ) (bytes : List ℕ) → length (records_in kinds count bytes) ≡ count
unfolding records_in
length-records_in kinds zero bytes = refl
length-records_in kinds (suc count) bytes = ap suc (length-records_in kinds count (drop (record_width kinds) bytes))

-- no value is below a floor of 0
no_floor : (result : Result ℕ Cause) → and_then result (not_below 0) ≡ result
no_floor (Ok value) = not_below-above 0 value (omega arith)
no_floor (Err cause) = refl

-- a record is read as far as a column, and the fields from there on stand at the front of the rest
pub record RecordRead (row first : ℕ) (kinds : List Kind) (bytes values : List ℕ) (column rule : ℕ) (rest : List ℕ) : Type 0 where
  pub read : RowRead field_value row first kinds (row_values field_value 0 0 row first kinds (record_fields kinds bytes)) values column rule 0 (record_fields (drop column kinds) rest)
  pub whole : record_width (drop column kinds) ≤ length rest

module _ {row first : ℕ} {kinds : List Kind} {bytes values : List ℕ} {column rule : ℕ} {rest : List ℕ} (now : RecordRead row first kinds bytes values column rule rest) (d : Kind) (field : column < length kinds) where
  -- the next field stands within the rest
  pub field_within : width (get_or kinds column d) ≤ length rest
  field_within = omega (arith, now.whole, record_width-more kinds column d field)

  -- it is the first of those that are left
  next : record_fields (drop column kinds) rest ≡ take (width (get_or kinds column d)) rest ∷ record_fields (drop (column + 1) kinds) (drop (width (get_or kinds column d)) rest)
  unfolding record_fields
  next = at_drop_more (λ kinds. record_fields kinds rest) kinds column d field

  -- and its number gives its value
  number-value : (result : Result ℕ Cause) → result ≡ in_range (under rule (get_or kinds column d)) (little_number (width (get_or kinds column d)) rest)
      → value_from field_value 0 (under rule (get_or kinds column d)) (take (width (get_or kinds column d)) rest) ≡ result
  number-value result found =
      let w : ℕ = width (get_or kinds column d) in
      no_floor (field_value (under rule (get_or kinds column d)) (take w rest)) ∙ rw (length-take-le w rest field_within, little_from-take 0 w w rest (omega arith)) (sym found)

  -- a value more
  pub record-more : (value : ℕ) → Ok value ≡ in_range (under rule (get_or kinds column d)) (little_number (width (get_or kinds column d)) rest)
      → RecordRead row first kinds bytes (slice_set values column value) (column + 1) (rule_after rule (get_or kinds column d) value) (drop (width (get_or kinds column d)) rest)
  record-more value found = record {
    read = row-more now.read d _ _ value field next (number-value (Ok value) found);
    whole = omega (arith, now.whole, record_width-more kinds column d field, length-drop (width (get_or kinds column d)) rest);
  }

  -- the place where the record stops
  pub record-stops : (cause : Cause) → Err cause ≡ in_range (under rule (get_or kinds column d)) (little_number (width (get_or kinds column d)) rest)
      → Err (Bad row (first + column) cause) ≡ row_values field_value 0 0 row first kinds (record_fields kinds bytes)
  record-stops cause found = row-stops now.read d _ _ cause field next (number-value (Err cause) found)

-- the values of a record are in range
pub record_in_range : (row first : ℕ) (kinds : List Kind) (bytes values : List ℕ) → row_values field_value 0 0 row first kinds (record_fields kinds bytes) ≡ Ok values → IsRow 0 kinds values
record_in_range row first kinds bytes values good =
    row-range field_value field_value-range 0 kinds (record_fields kinds bytes) values (row-read field_value 0 0 row first kinds (record_fields kinds bytes) values (length-record_fields kinds bytes) good).0

-- a row in front of others comes before the end
in_front-end : (values : List ℕ) (rows : Result (List (List ℕ)) TableStop) (whole : Bool) (stop : TableStop)
    → and_then (in_front values rows) (λ rows. if whole then Ok rows else Err stop) ≡ in_front values (and_then rows (λ rows. if whole then Ok rows else Err stop))
in_front-end values (Ok rows) true stop = refl
in_front-end values (Ok rows) false stop = refl
in_front-end values (Err e) whole stop = refl

module _ (before first : ℕ) (kinds : List Kind) (bytes : List ℕ) where
  module _ (some : 0 < record_width kinds) (whole : record_width kinds ≤ length bytes) where
    -- a record more than behind the first
    count : record_count kinds bytes ≡ suc (record_count kinds (drop (record_width kinds) bytes))
    count = rw length-drop (omega (arith, div-eq-sub-div some whole))

    -- a good record stands in front of those behind it
    pub record-good : (values : List ℕ) → row_values field_value 0 0 (before + 1) first kinds (record_fields kinds bytes) ≡ Ok values
        → records_behind before first kinds bytes ≡ in_front values (records_behind (before + 1) first kinds (drop (record_width kinds) bytes))
    unfolding records_behind records_in
    record-good values good =
        let n : ℕ = record_count kinds (drop (record_width kinds) bytes) in
        let rest : length bytes % record_width kinds ≡ length (drop (record_width kinds) bytes) % record_width kinds = rw length-drop (mod-eq-sub-mod whole) in
        let place : before + suc n + 1 ≡ before + 1 + n + 1 = omega arith in
        rw (count, rest, place, table_rows-row field_value false first kinds 0 (before + 1) values (record_fields kinds bytes) (records_in kinds n (drop (record_width kinds) bytes)) (length-record_fields kinds bytes) (sym good))
        (in_front-end values _ _ _)

    -- a bad one stops them
    pub record-bad : (stop : TableStop) → row_values field_value 0 0 (before + 1) first kinds (record_fields kinds bytes) ≡ Err stop → records_behind before first kinds bytes ≡ Err stop
    unfolding records_behind records_in
    record-bad stop bad =
        rw (count, table_rows-stops field_value false first kinds 0 (before + 1) stop (record_fields kinds bytes) (records_in kinds (record_count kinds (drop (record_width kinds) bytes)) (drop (record_width kinds) bytes)) (length-record_fields kinds bytes) (sym bad)) refl

  -- no whole record is left
  record-last : length bytes < record_width kinds → records_behind before first kinds bytes ≡ (if length bytes == 0 then Ok [] else Err (CutRecord (before + 1)))
  unfolding records_behind records_in table_rows
  record-last short = let place : before + 0 + 1 ≡ before + 1 = omega arith in rw (div-eq_of_lt short, mod-eq_of_lt short, place) refl

  -- and nothing else, or a part of one
  pub record-end : 0 < record_width kinds → length bytes ≡ 0 → records_behind before first kinds bytes ≡ Ok []
  record-end some none = record-last (omega arith) ∙ rw none refl

  pub record-cut : 0 < length bytes → length bytes < record_width kinds → records_behind before first kinds bytes ≡ Err (CutRecord (before + 1))
  record-cut some short = record-last short ∙ rw (ne_eqb (length bytes) 0 (λ none. omega arith)) refl

-- bytes that are not none are some
pub some-left : (size : ℕ) → false ≡ (size == 0) → 0 < size
some-left size left = grind (arith, nat_tests)

-- a record more is read as a row
pub rows-more : (before first : ℕ) (kinds : List Kind) (left rest : List ℕ) (rows : List (List ℕ)) (count : ℕ) (values : List ℕ) (all : Result (List (List ℕ)) TableStop) → count < length rows → all ≡ behind (take count rows) (records_behind (before + count) first kinds left)
    → records_behind (before + count) first kinds left ≡ in_front values (records_behind (before + count + 1) first kinds rest)
    → all ≡ behind (take (count + 1) (slice_set rows count values)) (records_behind (before + (count + 1)) first kinds rest)
rows-more before first kinds left rest rows count values all room so_far next =
    let place : before + (count + 1) ≡ before + count + 1 = omega arith in
    rw (place, take-set_at rows count (count + 1) values refl room) (so_far ∙ ap (behind (take count rows)) next ∙ behind-in_front (take count rows) values _)

-- the rows of records are those behind none
pub behind-none : (first : ℕ) (kinds : List Kind) (bytes : List ℕ) → records_behind 0 first kinds bytes ≡ record_rows first kinds bytes
unfolding record_rows records_behind
behind-none first kinds bytes = let count : 0 + record_count kinds bytes ≡ record_count kinds bytes = omega arith in rw count refl

-- so many whole records that are read give their rows
pub records-rows : (first count : ℕ) (kinds : List Kind) (bytes : List ℕ) (rows : List (List ℕ)) → 0 < length kinds → length bytes ≡ count * record_width kinds → AreRead field_value kinds (records_in kinds count bytes) rows
    → record_rows first kinds bytes ≡ Ok rows
unfolding record_rows
records-rows first count kinds bytes rows some long found =
    rw (long, mul-div_cancel count (record_width-some kinds some), mul-mod_left count (record_width kinds), read-rows field_value false first kinds 0 1 (records_in kinds count bytes) rows found (in_order-any rows)) refl

-- and what gives rows are whole records that are read
pub rows-records : (first : ℕ) (kinds : List Kind) (bytes : List ℕ) (rows : List (List ℕ)) → 0 < length kinds → record_rows first kinds bytes ≡ Ok rows → AreRead field_value kinds (whole_records kinds bytes) rows
unfolding record_rows
rows-records first kinds bytes rows some good =
    let found = and_then-ok (table_rows field_value false first kinds 0 1 (whole_records kinds bytes)) (λ rows. if length bytes % record_width kinds == 0 then Ok rows else Err (CutRecord (record_count kinds bytes + 1))) rows good in
    let same : found.0 ≡ rows = grind (arith, nat_tests, found.2) in
    (rows-read field_value false first kinds 0 1 (whole_records kinds bytes) rows some (found.1 ∙ ap Ok same)).0

-- they are in range, and as many as there are whole records
pub records_in_range : (first : ℕ) (kinds : List Kind) (bytes : List ℕ) (rows : List (List ℕ)) → 0 < length kinds → record_rows first kinds bytes ≡ Ok rows → AreRows kinds rows
records_in_range first kinds bytes rows some good = rows-range field_value field_value-range kinds (whole_records kinds bytes) rows (rows-records first kinds bytes rows some good)

pub records_counted : (first : ℕ) (kinds : List Kind) (bytes : List ℕ) (rows : List (List ℕ)) → 0 < length kinds → record_rows first kinds bytes ≡ Ok rows → length rows ≡ record_count kinds bytes
records_counted first kinds bytes rows some good =
    length-rows field_value kinds (whole_records kinds bytes) rows (rows-records first kinds bytes rows some good) ∙ length-records_in kinds (record_count kinds bytes) bytes
