-- What was found of named files before their bytes are read.
-- The rules: docs/COMMANDS.md, "kat".
use Rattle.std.specs.Prelude.{◌≡◌, ℕ, List, length, map, Option, Result, Ok, Err, IfSome}
use Rattle.kt_out.specs.InputFiles.{InputsState, CountsFault, CountsMiss}
use Rattle.kt_out.specs.NamedFiles.{FileMap}
use Rattle.kt_out.specs.Writing.{SinkState}
use Rattle.kt_out.specs.declared.fault.Fault.{Fault}
use Rattle.kt_out.specs.declared.fault.Fault.TheVariants as fault
use Rattle.kt_ends.specs.declared.status.Refusal.{Refusal}
use Rattle.kt_ends.specs.declared.status.Refusal.TheVariants as refusal
use Rattle.kt_ends.specs.declared.tool_stop.ToolStop.{ToolStop}
use Rattle.kt_ends.specs.declared.tool_stop.ToolStop.TheVariants as stop
use Rattle.kt_kat.specs.Files.{found_file, files_of}

-- the name stands for so many bytes, and they are not refused
pub record IsFound (name : List ℕ) (held : Option (List ℕ)) (size : ℕ) : Type 0 where
  pub bytes : List ℕ
  pub found : found_file name held ≡ Ok bytes
  pub sized : size ≡ length bytes

-- all names stand for files of these sizes
pub record AreFound (names : List (List ℕ)) (files : FileMap) (sizes : List ℕ) : Type 0 where
  pub contents : List (List ℕ)
  pub found : files_of names files ≡ Ok contents
  pub sized : sizes ≡ map length contents

-- a refusal is that of what was found
abbrev pub TellsRefusal : {A : Type 0} → Result A Refusal → ToolStop → Type 0
TellsRefusal found (stop.Refused why) = found ≡ Err why
TellsRefusal found stop.ReadFault = Unit {0}
TellsRefusal found stop.WriteFault = Unit {0}
TellsRefusal found stop.NoMemory = Unit {0}

-- what looking for files leaves of the input files: a fault or a miss was counted exactly where it is answered
abbrev pub Looked : {T : Type 0} → InputsState → InputsState → Result T ToolStop → Type 0
Looked before after (Ok found) = after ≡ before
Looked before after (Err (stop.Refused (refusal.Missing name))) = CountsMiss before after
Looked before after (Err (stop.Refused other)) = after ≡ before
Looked before after (Err stop.ReadFault) = CountsFault before after
Looked before after (Err stop.WriteFault) = ⊥
Looked before after (Err stop.NoMemory) = after ≡ before

-- what a look into a file leaves of the input files: a fault was counted exactly where it is answered
abbrev pub LooksInto : {T : Type 0} → InputsState → InputsState → Result T Fault → Type 0
LooksInto before after (Ok seen) = after ≡ before
LooksInto before after (Err fault.Failed) = CountsFault before after
LooksInto before after (Err fault.OutOfMemory) = after ≡ before

-- where a named file is missing or too large, the sink was not due, whatever is answered
abbrev pub FoundFirst : List (List ℕ) → InputsState → SinkState → SinkState → Type 0
FoundFirst names inputs before after = IfSome inputs.held (λ files. (why : Refusal) → files_of names files ≡ Err why → after ≡ before)
