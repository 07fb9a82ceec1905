-- Rows that load are those of a portfolio.
use Rattle.std.proofs.Common.{◌≡◌, ◌<◌, ℕ, List, [], ◌∷◌, length, Option, None, Result, Ok, Err, Bool, true, false, cond, refl, sym, subst, ◌∙◌, arith, inl, inr}
use Rattle.std.specs.Prelude.{IfOk}
use Rattle.std.specs.List.{AllByRecursion, filter}
use Rattle.std.proofs.lemmas.Bool.{true≢false}
use Rattle.std.proofs.lemmas.List.Elements.{All-cons, All-nil, recursion_from_All}
use Rattle.kt_cells.specs.Header.{header_extra}
use Rattle.kt_cells.specs.Ranges.{AreRows}
use Rattle.kt_cells.specs.Reading.{and_then-ok}
use Rattle.kt_cells.specs.Records.{record_rows}
use Rattle.kt_rec.specs.declared.kind.Kind.{Kind}
use Rattle.kt_cells.proofs.RecordLemmas.{records_in_range}
use Rattle.kt_checks.specs.Checks.{first_refusal}
use Rattle.kt_keys.specs.declared.need.Need.{Need}
use Rattle.kt_out.specs.NamedFiles.{FileMap}
use Rattle.kt_rec.specs.Rows.{Rows, no_rows}
use Rattle.kt_rec.specs.TableNames.{IsTableId, number_of}
use Rattle.kt_rec.specs.TableSet.{is_in}
use Rattle.kt_rec.specs.declared.table.Table.{Table}
use Rattle.kt_rec.specs.declared.table.Table.TheVariants as table
use Rattle.kt_rec.specs.declared.table.TableId.{TableId}
use Rattle.kt_rec.specs.declared.table_set.TableSet.{TableSet}
use Rattle.kt_schema.specs.Conversions.{body_of, body_rows, extra_of}
use Rattle.kt_schema.specs.Loading.{RowsInRange, loaded_rows}
use Rattle.kt_schema.specs.Tables.{has_header, kinds_of, least_extra, most_extra}
use Rattle.kt_tables.specs.Portfolio.{IsPortfolio}
use Rattle.kt_load.specs.declared.stop.LoadStop.{LoadStop}
use Rattle.kt_load.specs.FileNames.{each-is_table, file_name_of, load_order}
use Rattle.kt_load.specs.Loaded.{loaded, needed, was_loaded}
use Rattle.kt_load.specs.Reading.{go_on, was_read, with_table_file, with_table_files}
use Rattle.kt_load.specs.Steps.{GivesPeriods, KeepsAll, KeepsRows}
use Rattle.kt_load.proofs.NeedLemmas.{has_periods-from_all, no_rows-in_range}
use Rattle.kt_load.proofs.OutsideLemmas.{no_rows-outside}
use Rattle.kt_load.proofs.TableLemmas.{rows-keep}

-- ---- one file

-- what stands behind the header of a file is in range
body_in_range : (header : Bool) (number least most first : ℕ) (kinds : List Kind) (bytes : List ℕ) (extra : ℕ) (values : List (List ℕ)) → 0 < length kinds → body_rows header number least most first kinds bytes ≡ Ok (extra, values) → AreRows kinds values
body_in_range header number least most first kinds bytes extra values some is =
    let behind = and_then-ok (extra_of header number least most bytes) _ (extra, values) is in
    let rows = and_then-ok (record_rows first kinds (body_of header bytes)) _ (extra, values) behind.2 in
    subst (λ file. IfOk file (λ f. AreRows kinds f.1)) rows.2 (records_in_range first kinds (body_of header bytes) rows.0 some rows.1)

-- each table has a column
some_column : (t : Table) → 0 < length (kinds_of t)
some_column table.Events = omega arith
some_column t = omega arith

-- the rows of a file are in range; of the footprint none is loaded
loaded_in_range : (t : Table) (bytes : List ℕ) (extra : ℕ) (values : List (List ℕ)) → loaded_rows t bytes ≡ Ok (extra, values) → RowsInRange t values
unfolding AreRows
loaded_in_range table.Footprint bytes extra values is =
    let header = and_then-ok (header_extra 4 0 0 bytes) _ (extra, values) is in
    subst (λ file. IfOk file (λ f. AreRows (kinds_of table.Footprint) f.1)) header.2 tt
loaded_in_range t bytes extra values is = body_in_range (has_header t) (number_of t) (least_extra t) (most_extra t) 1 (kinds_of t) bytes extra values (some_column t) is

-- what a file that was read keeps
file_keeps : (id : TableId) (file : Option (List ℕ)) (old now : Rows) → IsTableId id → with_table_file old id file ≡ Ok now → KeepsRows id old now
file_keeps id file old now is read =
    let was = was_read id file old now read in
    subst (KeepsRows id old) was.becomes (rows-keep id (length was.bytes) was.bytes old was.extra was.values is (loaded_in_range id.table was.bytes was.extra was.values was.read) was.read)

-- ---- file by file

-- one table more, by whether the set has it
table_keeps : (files : FileMap) (set : TableSet) (id : TableId) (ids : List TableId) (old now : Rows) (there : Bool) → IsTableId id → is_in set id ≡ there → ((mid : Rows) → with_table_files files (filter (is_in set) ids) mid ≡ Ok now → KeepsAll set ids mid now) → with_table_files files (cond there (id ∷ filter (is_in set) ids) (filter (is_in set) ids)) old ≡ Ok now → KeepsAll set (id ∷ ids) old now
unfolding with_table_files
table_keeps files set id ids old now false is out later read =
    let rest = later old read in
    record {
      in_range = rest.in_range;
      outside = rest.outside;
      periods = rest.periods;
      read_periods = All-cons (GivesPeriods set now) id ids (λ number there. absurd (true≢false (sym there ∙ out))) rest.read_periods;
    }
table_keeps files set id ids old now true is there later read = by (with_table_file old id (files (file_name_of id))) refl read
  where
    by : (got : Result Rows LoadStop) → with_table_file old id (files (file_name_of id)) ≡ got → go_on got (with_table_files files (filter (is_in set) ids)) ≡ Ok now → KeepsAll set (id ∷ ids) old now
    by (Err why) e h = cc
    by (Ok mid) e h =
        let this = file_keeps id (files (file_name_of id)) old mid is e in
        let rest = later mid h in
        record {
          in_range = λ before. rest.in_range (this.in_range before);
          outside = λ before. rest.outside (this.outside set there before);
          periods = λ before. rest.periods (this.periods (inl before));
          read_periods = All-cons (GivesPeriods set now) id ids (λ number read. rest.periods (this.periods (inr number))) rest.read_periods;
        }

-- all tables of the set among these
tables_keep : (files : FileMap) (set : TableSet) (ids : List TableId) (old now : Rows) → AllByRecursion IsTableId ids → with_table_files files (filter (is_in set) ids) old ≡ Ok now → KeepsAll set ids old now
unfolding with_table_files
tables_keep files set [] old now are read = subst (λ (r : Result Rows LoadStop). IfOk r (KeepsAll set [] old)) read (record { in_range = λ h. h; outside = λ h. h; periods = λ h. h; read_periods = assumption (All-nil (GivesPeriods set old)) })
tables_keep files set (id ∷ ids) old now are read = table_keeps files set id ids old now (is_in set id) are.0 refl (λ mid rest. tables_keep files set ids mid now are.1 rest) read

-- ---- all tables

-- rows that are read and that no check refuses
read_portfolio : (files : FileMap) (need : Need) (rows : Rows) → with_table_files files (needed need) no_rows ≡ Ok rows → first_refusal rows need ≡ None → IsPortfolio (record { rows = rows; need = need })
read_portfolio files need rows read none =
    let keeps = tables_keep files need.loaded load_order no_rows rows (recursion_from_All IsTableId load_order each-is_table) read in
    record {
      in_range = keeps.in_range no_rows-in_range;
      only_needed = keeps.outside (no_rows-outside need.loaded);
      periods = has_periods-from_all need load_order rows refl keeps.read_periods;
      valid = record { none = none };
    }

-- rows that load
pub loaded_portfolio : (files : FileMap) (need : Need) (rows : Rows) → loaded files need ≡ Ok rows → IsPortfolio (record { rows = rows; need = need })
loaded_portfolio files need rows is = let was = was_loaded files need rows is in read_portfolio files need rows was.read was.none
