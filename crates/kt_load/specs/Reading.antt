-- What the files of tables give: their rows, or the first refusal.
-- The rules: docs/REFUSALS.md, "Order".
use Rattle.std.specs.Prelude.{◌≡◌, ℕ, ◌^◌, Bool, true, false, refl, List, [], ◌∷◌, length, nat_lt, if◌then◌else◌, Option, None, Some, Result, Ok, Err, IfOk}
use Rattle.std.proofs.Common.{subst, ap, ◌∙◌}
use Rattle.kt_out.specs.NamedFiles.{FileMap}
use Rattle.kt_rec.specs.declared.table.TableId.{TableId}
use Rattle.kt_rec.specs.Rows.{Rows}
use Rattle.kt_cells.specs.declared.stop.TableStop.{TableStop}
use Rattle.kt_schema.specs.Loading.{loaded_rows}
use Rattle.kt_load.specs.declared.stop.LoadStop.{LoadStop}
use Rattle.kt_load.specs.declared.stop.LoadStop.TheVariants as stop
use Rattle.kt_load.specs.FileNames.{file_name_of}
use Rattle.kt_load.specs.Typed.{with_rows}

-- the most bytes of a table's file
abbrev pub file_limit : ℕ
file_limit = 2 ^ 30

-- goes on unless it was refused
abbrev pub go_on : {A B : Type 0} → Result A LoadStop → (A → Result B LoadStop) → Result B LoadStop
go_on (Ok value) next = next value
go_on (Err why) next = Err why

-- the rows with those that a file of so many bytes has, or its refusal
abbrev pub with_read : Rows → TableId → ℕ → Result (ℕ × List (List ℕ)) TableStop → Result Rows LoadStop
with_read rows id size (Ok file) = Ok (with_rows rows id.stage id.table file.0 file.1 size)
with_read rows id size (Err why) = Err (stop.Table (file_name_of id) why)

-- the rows with those of a table's file: it is missing, too large, or has a first bad place
abbrev pub with_table_file : Rows → TableId → Option (List ℕ) → Result Rows LoadStop
with_table_file rows id None = Err (stop.Missing (file_name_of id))
with_table_file rows id (Some bytes) = if nat_lt file_limit (length bytes) then Err (stop.TooLarge (file_name_of id)) else with_read rows id (length bytes) (loaded_rows id.table bytes)

-- the rows with those of some tables' files, in this order
unfoldable pub with_table_files : FileMap → List TableId → Rows → Result Rows LoadStop
with_table_files files [] rows = Ok rows
with_table_files files (id ∷ ids) rows = go_on (with_table_file rows id (files (file_name_of id))) (with_table_files files ids)

-- a file of a table was read: it is there, has these rows behind a header that ends with this number, and is read so into any rows
pub record WasRead (id : TableId) (file : Option (List ℕ)) (old now : Rows) : Type 0 where
  pub bytes : List ℕ
  pub extra : ℕ
  pub values : List (List ℕ)
  pub there : file ≡ Some bytes
  pub read : loaded_rows id.table bytes ≡ Ok (extra, values)
  pub becomes : with_rows old id.stage id.table extra values (length bytes) ≡ now
  pub so : (rows : Rows) → with_table_file rows id file ≡ Ok (with_rows rows id.stage id.table extra values (length bytes))

pub was_read : (id : TableId) (file : Option (List ℕ)) (old now : Rows) → with_table_file old id file ≡ Ok now → WasRead id file old now
was_read id None old now is = cc
was_read id (Some bytes) old now is = by_size (nat_lt file_limit (length bytes)) refl is
  where
    by_read : (read : Result (ℕ × List (List ℕ)) TableStop) → nat_lt file_limit (length bytes) ≡ false → loaded_rows id.table bytes ≡ read → with_read old id (length bytes) read ≡ Ok now → WasRead id (Some bytes) old now
    by_read (Ok (extra, values)) few e h = record {
      bytes = bytes;
      extra = extra;
      values = values;
      there = refl;
      read = e;
      becomes = subst (λ (r : Result Rows LoadStop). IfOk r (λ rows. with_rows old id.stage id.table extra values (length bytes) ≡ rows)) h refl;
      so = λ rows. ap (λ (large : Bool). if large then Err (stop.TooLarge (file_name_of id)) else with_read rows id (length bytes) (loaded_rows id.table bytes)) few ∙ ap (with_read rows id (length bytes)) e;
    }
    by_read (Err why) few e h = cc

    by_size : (large : Bool) → nat_lt file_limit (length bytes) ≡ large → (if large then Err (stop.TooLarge (file_name_of id)) else with_read old id (length bytes) (loaded_rows id.table bytes)) ≡ Ok now → WasRead id (Some bytes) old now
    by_size true e h = cc
    by_size false e h = by_read (loaded_rows id.table bytes) e refl h
