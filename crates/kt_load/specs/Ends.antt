-- How reading the files of tables ends, and what it leaves of the inputs.
-- The rules: docs/REFUSALS.md, "Order".
use Rattle.std.specs.Prelude.{◌≡◌, ◌+◌, ◌≤◌, ℕ, List, length, min, take, drop, Option, None, Some, Result, Ok, Err, IfSome, IsSomeAnd, MatchResult, ⊤}
use Rattle.kt_out.specs.InputFiles.{InputsState, CountsFault, CountsMiss}
use Rattle.kt_out.specs.NamedFiles.{FileMap}
use Rattle.kt_rec.specs.declared.table.Table.{Table as TheTable}
use Rattle.kt_rec.specs.declared.table.Table.TheVariants as which
use Rattle.kt_cells.specs.Header.{header_width}
use Rattle.kt_cells.specs.declared.stop.TableStop.{TableStop}
use Rattle.kt_cells.specs.declared.stop.TableStop.TheVariants as table
use Rattle.kt_rec.specs.Rows.{Rows}
use Rattle.kt_rec.specs.declared.table.TableId.{TableId}
use Rattle.kt_load.specs.Reading.{with_table_files}
use Rattle.kt_load.specs.declared.stop.LoadStop.{LoadStop}
use Rattle.kt_load.specs.declared.stop.LoadStop.TheVariants.{Missing, TooLarge, Table, Check, ReadFault, OutOfMemory}

-- the file of this name has so many bytes, where files are known
abbrev pub HasFront : Option FileMap → List ℕ → ℕ → Type 0
HasFront None name wanted = ⊤
HasFront (Some files) name wanted = IsSomeAnd (files name) (λ bytes. wanted ≤ length bytes)

-- the file of this name has so many bytes from a place on, where files are known
abbrev pub HasPart : Option FileMap → List ℕ → ℕ → ℕ → Type 0
HasPart None name from wanted = ⊤
HasPart (Some files) name from wanted = IsSomeAnd (files name) (λ bytes. from + wanted ≤ length bytes)

-- so many bytes from a place on of the file of this name, where files are known
pub record IsPart (held : Option FileMap) (name : List ℕ) (from wanted : ℕ) (part : List ℕ) : Type 0 where
  pub whole : length part ≡ wanted
  pub known : IfSome held (λ files. IfSome (files name) (λ bytes. part ≡ take wanted (drop from bytes)))

-- so many bytes, the first of the file of this name, where files are known
pub record IsFront (held : Option FileMap) (name : List ℕ) (wanted : ℕ) (front : List ℕ) : Type 0 where
  pub whole : length front ≡ wanted
  pub known : IfSome held (λ files. IfSome (files name) (λ bytes. front ≡ take wanted bytes))

-- the first bytes of the room are the first from a place on of the file of this name, where files are known
pub record HasRead (held : Option FileMap) (name : List ℕ) (from wanted at : ℕ) (room : List ℕ) : Type 0 where
  pub within : at ≤ wanted
  pub whole : length room ≡ wanted
  pub known : IfSome held (λ files. IfSome (files name) (λ bytes. take at room ≡ take at (drop from bytes)))

-- how many bytes of a table's file of so many are read: all, but of the footprint the header alone
abbrev pub bytes_wanted : TheTable → ℕ → ℕ
bytes_wanted which.Footprint size = min size header_width
bytes_wanted t size = size

-- the stop for a file that is not that of its table, or want of memory
abbrev pub IsTableEnd : List ℕ → TableStop → LoadStop → Type 0
IsTableEnd name table.OutOfMemory end = end ≡ OutOfMemory
IsTableEnd name table.NotProfile end = end ≡ Table name table.NotProfile
IsTableEnd name (table.WrongTable found) end = end ≡ Table name (table.WrongTable found)
IsTableEnd name (table.WrongVersion found) end = end ≡ Table name (table.WrongVersion found)
IsTableEnd name (table.CutRecord row) end = end ≡ Table name (table.CutRecord row)
IsTableEnd name (table.Bad row column cause) end = end ≡ Table name (table.Bad row column cause)

-- what a stop tells of what was expected: nothing for a fault or want of memory, which may come at any files
abbrev pub TellsLoad : {A : Type 0} → Result A LoadStop → LoadStop → Type 0
TellsLoad expected ReadFault = ⊤
TellsLoad expected OutOfMemory = ⊤
TellsLoad expected (Missing name) = expected ≡ Err (Missing name)
TellsLoad expected (TooLarge name) = expected ≡ Err (TooLarge name)
TellsLoad expected (Table name stop) = expected ≡ Err (Table name stop)
TellsLoad expected (Check number name row) = expected ≡ Err (Check number name row)

-- what a call that reads the files of some tables tells, where files are known: the rows with all of theirs, or why there are none
abbrev pub TellsTables : Option FileMap → List TableId → Rows → Rows → Result Unit LoadStop → Type 0
TellsTables held ids old new result = IfSome held (λ files. MatchResult result (λ _. with_table_files files ids old ≡ Ok new) (TellsLoad (with_table_files files ids old)))

-- what a stop leaves of the inputs: a count rose exactly where the stop is the answer to it
abbrev pub AfterStop : InputsState → InputsState → LoadStop → Type 0
AfterStop before after ReadFault = CountsFault before after
AfterStop before after (Missing name) = CountsMiss before after
AfterStop before after OutOfMemory = after ≡ before
AfterStop before after (TooLarge name) = after ≡ before
AfterStop before after (Table name stop) = after ≡ before
AfterStop before after (Check number name row) = after ≡ before

-- what loading leaves of the inputs
abbrev pub AfterLoad : {A : Type 0} → InputsState → InputsState → Result A LoadStop → Type 0
AfterLoad before after (Ok loaded) = after ≡ before
AfterLoad before after (Err stop) = AfterStop before after stop

-- a stop in reading is a fault that was counted, or want of memory
abbrev pub IsReadStop : InputsState → InputsState → LoadStop → Type 0
IsReadStop before after ReadFault = CountsFault before after
IsReadStop before after OutOfMemory = after ≡ before
IsReadStop before after (Missing name) = ⊥
IsReadStop before after (TooLarge name) = ⊥
IsReadStop before after (Table name stop) = ⊥
IsReadStop before after (Check number name row) = ⊥
