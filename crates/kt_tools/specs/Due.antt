-- When the objects outside are due: faulty words, and a refusal of the tables or files that a command needs, come before all of them.
-- The rules: docs/REFUSALS.md, "Order".
use Rattle.std.specs.Prelude.{◌≡◌, ℕ, List, Some, Result, Ok, Err, IfSome}
use Rattle.kt_ends.specs.Ending.{IsRefusal}
use Rattle.kt_ends.specs.World.{World}
use Rattle.kt_ends.specs.declared.status.Refusal.{Refusal}
use Rattle.kt_kat.specs.Files.{files_of}
use Rattle.kt_keys.specs.declared.need.Need.{Need}
use Rattle.kt_load.specs.Loaded.{loaded}
use Rattle.kt_load.specs.declared.stop.LoadStop.{LoadStop}
use Rattle.kt_tools.specs.GeneratedRun.{generated_outcome}
use Rattle.kt_tools.specs.Needs.{command_need}
use Rattle.kt_words.specs.FileNames.{file_names}
use Rattle.kt_words.specs.declared.command.Command.{Command}
use Rattle.kt_words.specs.declared.command.Command.TheVariants.{Gen, Kat}
use Rattle.kt_words.specs.declared.stop.WordStop.{WordStop}

-- the output files, the source and the sink are as they were
pub record AreNotDue (before after : World) : Type 0 where
  pub outputs : after.outputs ≡ before.outputs
  pub source : after.source ≡ before.source
  pub sink : after.sink ≡ before.sink

-- where the files of the tables that a command needs are refused, or a check refuses their rows, the other objects were not due,
-- whatever is answered
abbrev pub TablesFirst : Command → World → World → Type 0
TablesFirst command before after = (need : Need) → command_need command ≡ Some need → IfSome before.inputs.held (λ files. (why : LoadStop) → loaded files need ≡ Err why → AreNotDue before after)

-- the same of what takes the place of tables: of the files that `kat` is to join, where one is missing or too large; and of a made-up set,
-- where the run over it is refused
abbrev pub FilesFirst : List (List ℕ) → Command → World → World → Type 0
FilesFirst words Kat before after = IfSome before.inputs.held (λ files. (why : Refusal) → files_of (file_names words) files ≡ Err why → AreNotDue before after)
FilesFirst words (Gen seed items events workers) before after = IsRefusal (generated_outcome seed items events).status → AreNotDue before after
FilesFirst words command before after = Unit {0}

-- tables, files and sets come first
pub record AllFirst (words : List (List ℕ)) (command : Command) (before after : World) : Type 0 where
  pub tables : TablesFirst command before after
  pub files : FilesFirst words command before after

-- the same for what words are; for faulty ones no object was due
abbrev pub InOrder : List (List ℕ) → Result Command WordStop → World → World → Type 0
InOrder words (Ok command) before after = AllFirst words command before after
InOrder words (Err stop) before after = AreNotDue before after
