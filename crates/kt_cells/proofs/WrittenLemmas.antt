-- Records and headers that are written are read back, and slices of records give slices of their rows.
use Rattle.std.proofs.Common.{◌≡◌, ◌<◌, ℕ, zero, suc, ◌+◌, ◌-◌, ◌*◌, ◌≤◌, List, [], ◌∷◌, ◌++◌, length, take, drop, refl, ap, ◌∙◌, arith, append_assoc, length-append, length-drop, drop-drop}
use Rattle.std.specs.Prelude.{Err, Ok, ◌≢◌}
use Rattle.std.proofs.lemmas.Bool.Decides.{nat_tests}
use Rattle.std.proofs.lemmas.List.{take_at, drop_at, take-take, drop-take, length-take-le}
use Rattle.std.proofs.Math.Nat.{div-mul-le_self, mul-le-mul_right}
use Rattle.byteorder.specs.Endian.{little_number, little_bytes}
use Rattle.byteorder.specs.Numbers.{length-bytes_low_first, little_number-reads_back}
use Rattle.kt_cells.specs.Header.{header_extra, header_bytes, mark, version, number_at}
use Rattle.kt_rec.specs.Kinds.{width, within}
use Rattle.kt_cells.specs.Laws.{RecordsAreReadBack, HeadersAreReadBack, SlicesGiveSlices}
use Rattle.kt_cells.specs.Ranges.{IsRow, AreRows}
use Rattle.kt_cells.specs.Reading.{rule_after, at_place}
use Rattle.kt_cells.specs.Records.{record_width, record_fields, records_in, record_bytes, records_bytes, record_count, field_value}
use Rattle.kt_rec.specs.declared.kind.Kind.{Kind}
use Rattle.kt_cells.specs.declared.stop.TableStop.TheVariants.{NotProfile, WrongTable, WrongVersion}
use Rattle.kt_cells.proofs.KindLemmas.{number-read_back}
use Rattle.kt_cells.proofs.RangeLemmas.{IsRead, AreRead}
use Rattle.kt_cells.proofs.RecordLemmas.{records-rows, rows-records, records_counted}

-- a record in range has the bytes of its columns
length-record_bytes : (rule : ℕ) (kinds : List Kind) (values : List ℕ) → IsRow rule kinds values → length (record_bytes kinds values) ≡ record_width kinds
unfolding record_bytes record_width IsRow
length-record_bytes rule [] [] range = refl
length-record_bytes rule (kind ∷ kinds) (value ∷ values) range =
    omega (arith, length-append (little_bytes (width kind) value) (record_bytes kinds values), length-bytes_low_first 0 (width kind) value, length-record_bytes (rule_after rule kind value) kinds values range.1)
length-record_bytes rule kinds values range = absurd range

-- its fields are read as its values
record-written : (rule : ℕ) (kinds : List Kind) (values rest : List ℕ) → IsRow rule kinds values → IsRead field_value rule kinds (record_fields kinds (record_bytes kinds values ++ rest)) values
unfolding record_fields record_bytes IsRow IsRead
record-written rule [] [] rest range = tt
record-written rule (kind ∷ kinds) (value ∷ values) rest range =
    let bytes : List ℕ = little_bytes (width kind) value in
    let more : List ℕ = record_bytes kinds values in
    let long : length bytes ≡ width kind = length-bytes_low_first 0 (width kind) value in
    rw (append_assoc bytes more rest, take_at bytes (more ++ rest) (width kind) long, drop_at bytes (more ++ rest) (width kind) long)
    (number-read_back rule kind value range.0, record-written (rule_after rule kind value) kinds values rest range.1)
record-written rule kinds values rest range = absurd range

-- so are the records of rows
records-written : (kinds : List Kind) (rows : List (List ℕ)) → AreRows kinds rows → AreRead field_value kinds (records_in kinds (length rows) (records_bytes kinds rows)) rows × (length (records_bytes kinds rows) ≡ length rows * record_width kinds)
unfolding records_in records_bytes AreRows
records-written kinds [] range = (tt, omega arith)
records-written kinds (row ∷ rows) range =
    let bytes : List ℕ = record_bytes kinds row in
    let more : List ℕ = records_bytes kinds rows in
    let long : length bytes ≡ record_width kinds = length-record_bytes 0 kinds row range.0 in
    let others = records-written kinds rows range.1 in
    let next : suc (length rows) * record_width kinds ≡ record_width kinds + length rows * record_width kinds = grind arith in
    ((record-written 0 kinds row more range.0, rw (drop_at bytes more (record_width kinds) long) others.0), omega (arith, next, length-append bytes more, long, others.1))

-- rows in range are read back from their records
pub records-read_back : RecordsAreReadBack
records-read_back first kinds rows some range =
    let written = records-written kinds rows range in
    records-rows first (length rows) kinds (records_bytes kinds rows) rows some written.1 written.0

-- the fields of a record stand at the front of the bytes
fields-front : (kinds : List Kind) (most : ℕ) (bytes : List ℕ) → record_width kinds ≤ most → record_fields kinds (take most bytes) ≡ record_fields kinds bytes
unfolding record_width record_fields
fields-front [] most bytes within = refl
fields-front (kind ∷ kinds) most bytes within =
    let w : ℕ = width kind in
    let split : most ≡ w + (most - w) = omega (arith, within) in
    let front : take w (take most bytes) ≡ take w bytes = take-take w most bytes (omega arith) in
    let behind : drop w (take most bytes) ≡ take (most - w) (drop w bytes) = ap (λ m. drop w (take m bytes)) split ∙ drop-take w (most - w) bytes in
    rw (front, behind, fields-front kinds (most - w) (drop w bytes) (omega arith)) refl

-- the records at the front of some that are read
records-front : (kinds : List Kind) (count all : ℕ) (bytes : List ℕ) (rows : List (List ℕ)) → count ≤ all → AreRead field_value kinds (records_in kinds all bytes) rows
    → AreRead field_value kinds (records_in kinds count (take (count * record_width kinds) bytes)) (take count rows)
unfolding records_in
records-front kinds zero all bytes rows within found = tt
records-front kinds (suc count) zero bytes rows within found = absurd (omega arith)
records-front kinds (suc count) (suc all) bytes [] within found = absurd found
records-front kinds (suc count) (suc all) bytes (row ∷ rows) within found =
    let w : ℕ = record_width kinds in
    let split : suc count * w ≡ w + count * w = grind arith in
    rw (split, fields-front kinds (w + count * w) bytes (omega arith), drop-take w (count * w) bytes) (found.0, records-front kinds count all (drop w bytes) rows (omega arith) found.1)

-- and those behind some
records-behind : (kinds : List Kind) (from more all : ℕ) (bytes : List ℕ) (rows : List (List ℕ)) → all ≡ from + more → AreRead field_value kinds (records_in kinds all bytes) rows
    → AreRead field_value kinds (records_in kinds more (drop (from * record_width kinds) bytes)) (drop from rows)
unfolding records_in
records-behind kinds zero more all bytes rows parts found =
    let none : 0 * record_width kinds ≡ 0 = omega arith in
    let same : all ≡ more = omega arith in
    rw none (rw same at found)
records-behind kinds (suc from) more zero bytes rows parts found = absurd (omega arith)
records-behind kinds (suc from) more (suc all) bytes [] parts found = absurd found
records-behind kinds (suc from) more (suc all) bytes (row ∷ rows) parts found =
    let split : suc from * record_width kinds ≡ record_width kinds + from * record_width kinds = grind arith in
    rw (split, ← drop-drop (from * record_width kinds) (record_width kinds) bytes) (records-behind kinds from more all (drop (record_width kinds) bytes) rows (omega arith) found.1)

-- the records of a slice give a slice of the rows
pub slices : SlicesGiveSlices
slices first kinds bytes rows from count some good within =
    let w : ℕ = record_width kinds in
    let n : ℕ = record_count kinds bytes in
    let many : length rows ≡ n = records_counted first kinds bytes rows some good in
    let fits : (from + count) * w ≤ n * w = mul-le-mul_right w (omega (arith, many, within)) in
    let sum_is : (from + count) * w ≡ from * w + count * w = grind arith in
    records-rows first count kinds (take (count * w) (drop (from * w) bytes)) (take count (drop from rows)) some
    (length-take-le (count * w) (drop (from * w) bytes) (omega (arith, fits, sum_is, length-drop (from * w) bytes, div-mul-le_self (length bytes) w)))
    (records-front kinds count (n - from) (drop (from * w) bytes) (drop from rows) (omega (arith, many, within))
    (records-behind kinds from (n - from) n bytes rows (omega (arith, many, within)) (rows-records first kinds bytes rows some good)))

-- a header with good numbers gives its last one, if that is within its bounds
pub header_by : (number least most : ℕ) (bytes : List ℕ) → 16 ≤ length bytes → little_number 4 bytes ≡ mark → number_at 4 bytes ≡ number → number_at 8 bytes ≡ version
    → header_extra number least most bytes ≡ at_place 0 0 (within least most (number_at 12 bytes))
unfolding header_extra
header_by number least most bytes long marked numbered versioned = grind (arith, nat_tests)

-- too few bytes are no header
pub header_short : (number least most : ℕ) (bytes : List ℕ) → length bytes < 16 → Err NotProfile ≡ header_extra number least most bytes
unfolding header_extra
header_short number least most bytes short = grind (arith, nat_tests)

module _ (number least most : ℕ) (bytes : List ℕ) (long : 16 ≤ length bytes) where
  -- neither is another mark
  pub header_unmarked : little_number 4 bytes ≢ mark → Err NotProfile ≡ header_extra number least most bytes
  unfolding header_extra
  header_unmarked other = grind (arith, nat_tests)

  module _ (marked : little_number 4 bytes ≡ mark) where
    -- a header of another table
    pub header_of_other : number_at 4 bytes ≢ number → Err (WrongTable (number_at 4 bytes)) ≡ header_extra number least most bytes
    unfolding header_extra
    header_of_other other = grind (arith, nat_tests)

    -- a header of another version
    pub header_unversioned : number_at 4 bytes ≡ number → number_at 8 bytes ≢ version → Err (WrongVersion (number_at 8 bytes)) ≡ header_extra number least most bytes
    unfolding header_extra
    header_unversioned numbered other = grind (arith, nat_tests)

-- a header is read back
pub headers-read_back : HeadersAreReadBack
headers-read_back number least most extra rest numbered low high small =
    let within_bounds : within least most extra ≡ Ok extra = grind (arith, nat_tests) in
    header_by number least most (header_bytes number extra ++ rest) (omega arith)
    (little_number-reads_back 4 mark (little_bytes 4 number ++ (little_bytes 4 version ++ (little_bytes 4 extra ++ rest))) (omega arith))
    (little_number-reads_back 4 number (little_bytes 4 version ++ (little_bytes 4 extra ++ rest)) (omega arith))
    (little_number-reads_back 4 version (little_bytes 4 extra ++ rest) (omega arith))
    ∙ rw (little_number-reads_back 4 extra rest (omega arith), within_bounds) refl
