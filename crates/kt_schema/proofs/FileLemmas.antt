-- What stands in a file is read back.
use Rattle.std.proofs.Common.{◌≡◌, ◌≢◌, ℕ, ◌^◌, ◌<◌, ◌≤◌, Bool, true, false, List, length, refl, arith}
use Rattle.std.specs.Prelude.{Ok}
use Rattle.kt_rec.specs.TableNames.{number_of}
use Rattle.kt_rec.specs.declared.table.Table.{Table}
use Rattle.kt_rec.specs.declared.table.Table.TheVariants as table
use Rattle.kt_cells.specs.Laws.{HeadersAreReadBack, RecordsAreReadBack}
use Rattle.kt_cells.specs.Ranges.{AreRows}
use Rattle.kt_cells.specs.Records.{records_bytes}
use Rattle.kt_rec.specs.declared.kind.Kind.{Kind}
use Rattle.kt_schema.specs.Conversions.{bin, bin_rows, body_rows, file_bytes}
use Rattle.kt_schema.specs.Tables.{has_header, kinds_of, least_extra, most_extra}

module _ (headers : HeadersAreReadBack) (records : RecordsAreReadBack) where
  -- a file, with a header or without one
  file_read_back : (header : Bool) (number least most extra : ℕ) (kinds : List Kind) (rows : List (List ℕ)) → 0 < length kinds → number < 2 ^ 32 → most < 2 ^ 32 → (header ≡ false → most ≡ 0) → AreRows kinds rows → least ≤ extra → extra ≤ most
      → body_rows header number least most 1 kinds (file_bytes header number extra kinds rows) ≡ Ok (extra, rows)
  file_read_back true number least most extra kinds rows some small fits none range low high =
      rw (headers number least most extra (records_bytes kinds rows) small low high fits, records 1 kinds rows some range) refl
  file_read_back false number least most extra kinds rows some small fits none range low high =
      let zero_is : 0 ≡ extra = omega (arith, none refl) in
      rw (records 1 kinds rows some range, zero_is) refl

  -- each table but the footprint
  pub files_read_back : (t : Table) (extra : ℕ) (rows : List (List ℕ)) → t ≢ table.Footprint → AreRows (kinds_of t) rows → least_extra t ≤ extra → extra ≤ most_extra t → bin_rows t (bin t extra rows) ≡ Ok (extra, rows)
  files_read_back table.Footprint extra rows other range low high = absurd (other refl)
  files_read_back t extra rows other range low high = file_read_back (has_header t) (number_of t) (least_extra t) (most_extra t) extra (kinds_of t) rows (omega arith) (omega arith) (omega arith) (λ none. cc) range low high
