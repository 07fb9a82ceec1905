-- What stands in a text is read back.
use Rattle.std.proofs.Common.{◌≡◌, ◌≢◌, ℕ, ◌≤◌, false, List, [], drop, get_or, refl, ap, arith}
use Rattle.std.specs.Prelude.{Ok}
use Rattle.csv.specs.Reading.{strip_bom}
use Rattle.kt_rec.specs.declared.table.Table.{Table}
use Rattle.kt_rec.specs.declared.table.Table.TheVariants as table
use Rattle.kt_cells.specs.Laws.{LinesAreReadBack, TextsAreInRange}
use Rattle.kt_rec.specs.Lines.{line, fields_behind}
use Rattle.kt_cells.specs.Ranges.{AreRows, AreInOrder}
use Rattle.kt_cells.specs.Reading.{and_then}
use Rattle.kt_schema.specs.Conversions.{bin, bin_csv, canon, csv_rows}
use Rattle.kt_schema.specs.Laws.{FilesAreReadBack}
use Rattle.kt_schema.specs.Tables.{heading_of, is_ordered, kinds_of, least_extra, most_extra}

-- the canonical text of the rows of each table but the index
pub texts_read_back : LinesAreReadBack → (t : Table) (rows : List (List ℕ)) → t ≢ table.FootprintIdx → AreRows (kinds_of t) rows → AreInOrder (is_ordered t) 0 rows → csv_rows t (canon t rows) ≡ Ok rows
unfolding line fields_behind strip_bom
texts_read_back lines table.FootprintIdx rows other range order = absurd (other refl)
texts_read_back lines t rows other range order = lines (is_ordered t) (kinds_of t) (get_or (heading_of t) 0 []) (drop 1 (heading_of t)) rows (omega arith) range order (omega arith) (assumption tt) refl

-- an accepted text of each table but the footprint and its index goes round
pub texts_go_round : FilesAreReadBack → TextsAreInRange → (t : Table) (extra : ℕ) (text : List ℕ) (rows : List (List ℕ)) → t ≢ table.Footprint → t ≢ table.FootprintIdx → least_extra t ≤ extra → extra ≤ most_extra t
    → csv_rows t text ≡ Ok rows → bin_csv t (bin t extra rows) ≡ Ok (canon t rows)
texts_go_round files ranges table.Footprint extra text rows footprint index low high good = absurd (footprint refl)
texts_go_round files ranges table.FootprintIdx extra text rows footprint index low high good = absurd (index refl)
texts_go_round files ranges t extra text rows footprint index low high good =
    ap (λ result. and_then result (λ file. Ok (canon t file.1))) (files t extra rows footprint (ranges false (kinds_of t) text rows (omega arith) good).0 low high)
