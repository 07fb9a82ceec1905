-- How the reading of one table ends.
use Rattle.std.proofs.Common.{◌≡◌, ◌≤◌, ℕ, List, Option, Some, None, Ok, Result, length, take, refl, arith, ◌∙◌}
use Rattle.std.specs.Prelude.{IfSome}
use Rattle.std.proofs.lemmas.Bool.{le-ltb}
use Rattle.kt_load.proofs.KnownLemmas.{if_known}
use Rattle.kt_out.specs.NamedFiles.{FileMap}
use Rattle.kt_out.specs.InputFiles.{FindsSize, IsSizeOf}
use Rattle.kt_rec.specs.declared.table.TableId.{TableId}
use Rattle.kt_rec.specs.declared.tables.Tables.{Tables}
use Rattle.kt_rec.specs.Rows.{Rows, rows_of}
use Rattle.kt_rec.specs.TableNames.{IsTableId}
use Rattle.kt_cells.specs.Stops.{Tells}
use Rattle.kt_cells.specs.declared.stop.TableStop.{TableStop}
use Rattle.kt_cells.specs.declared.stop.TableStop.TheVariants as stop
use Rattle.kt_schema.specs.Loading.{Loads, RowsInRange, loaded_rows}
use Rattle.kt_load.specs.declared.stop.LoadStop.{LoadStop}
use Rattle.kt_load.specs.Ends.{IsFront, IsTableEnd, TellsLoad, bytes_wanted}
use Rattle.kt_load.specs.FileNames.{file_name_of}
use Rattle.kt_load.specs.Reading.{file_limit, with_read, with_table_file}
use Rattle.kt_load.specs.Steps.{KeepsRows}
use Rattle.kt_load.specs.Typed.{with_rows, with_size}
use Rattle.kt_load.proofs.FrontLemmas.{front-loads}
use Rattle.kt_load.proofs.OutsideLemmas.{outside-with_rows}
use Rattle.kt_load.proofs.TableRanges.{in_range-with_rows, periods-with_rows}
use Rattle.kt_load.proofs.TypedLemmas.{loads-rows_at}

-- what is kept where rows in range are read
pub rows-keep : (id : TableId) (size : ℕ) (bytes : List ℕ) (old : Rows) (extra : ℕ) (values : List (List ℕ)) → IsTableId id → RowsInRange id.table values → loaded_rows id.table bytes ≡ Ok (extra, values) → KeepsRows id old (with_rows old id.stage id.table extra values size)
rows-keep id size bytes old extra values is in_range read = record {
  in_range = λ h. in_range-with_rows id.table old id.stage extra values size in_range h;
  outside = λ set there h. outside-with_rows id.table set old id.stage extra values size is there h;
  periods = λ h. periods-with_rows id.table old id.stage extra size bytes values read h;
}

-- what is kept while a table is read
pub keeps-table : (id : TableId) (size : ℕ) (front : List ℕ) (old mid new : Tables) → IsTableId id → Loads id front old mid → rows_of new ≡ with_size (rows_of mid) id.table size → KeepsRows id (rows_of old) (rows_of new)
keeps-table id size front old mid new is loads sized =
    let has = loads-rows_at id.table id.stage front old mid loads in
    rw (sized, has.becomes size) (rows-keep id size front (rows_of old) has.extra has.values is has.in_range has.read)

-- what is refused ends the reading, unless it is want of memory
ends-reading : (rows : Rows) (id : TableId) (size : ℕ) (read : Result (ℕ × List (List ℕ)) TableStop) (why : TableStop) (answer : LoadStop) → Tells read why → IsTableEnd (file_name_of id) why answer → TellsLoad (with_read rows id size read) answer
ends-reading rows id size read stop.OutOfMemory answer tells ends = rw ends tt
ends-reading rows id size read why answer tells ends = rw (ends, tells) refl

-- where files are known, the file of a table gives what is loaded of the bytes that were read
file_gives : (held : Option FileMap) (id : TableId) (size : ℕ) (front : List ℕ) (rows : Rows) → size ≤ file_limit → FindsSize held (file_name_of id) (Ok size) → IsFront held (file_name_of id) (bytes_wanted id.table size) front
    → IfSome held (λ files. with_table_file rows id (files (file_name_of id)) ≡ with_read rows id size (loaded_rows id.table front))
file_gives None id size front rows small found is = tt
file_gives (Some files) id size front rows small found is = of_file (files (file_name_of id)) found is.known
  where
    of_file : (file : Option (List ℕ)) → IsSizeOf file (Ok size) → IfSome file (λ bytes. front ≡ take (bytes_wanted id.table size) bytes) → with_table_file rows id file ≡ with_read rows id size (loaded_rows id.table front)
    of_file None sized fronted = absurd sized
    of_file (Some bytes) sized fronted = rw (fronted, sized, front-loads id.table bytes, le-ltb file_limit (length bytes) (omega arith)) refl

module _ (held : Option FileMap) (id : TableId) (size : ℕ) (front : List ℕ) (small : size ≤ file_limit) (found : FindsSize held (file_name_of id) (Ok size)) (is : IsFront held (file_name_of id) (bytes_wanted id.table size) front) where
  -- the table was read
  pub reads-table : (old mid new : Tables) → Loads id front old mid → rows_of new ≡ with_size (rows_of mid) id.table size → IfSome held (λ files. with_table_file (rows_of old) id (files (file_name_of id)) ≡ Ok (rows_of new))
  reads-table old mid new loads sized =
      let has = loads-rows_at id.table id.stage front old mid loads in
      let loaded : with_read (rows_of old) id size (loaded_rows id.table front) ≡ Ok (rows_of new) = rw (has.read, sized, has.becomes size) refl in
      if_known held (λ files gives. gives ∙ loaded) (file_gives held id size front (rows_of old) small found is)

  -- how a table that is refused ends the reading
  pub refuses-table : (rows : Rows) (why : TableStop) (answer : LoadStop) → Tells (loaded_rows id.table front) why → IsTableEnd (file_name_of id) why answer → IfSome held (λ files. TellsLoad (with_table_file rows id (files (file_name_of id))) answer)
  refuses-table rows why answer tells ends = if_known held (λ files gives. rw gives (ends-reading rows id size (loaded_rows id.table front) why answer tells ends)) (file_gives held id size front rows small found is)
