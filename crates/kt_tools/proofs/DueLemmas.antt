-- When the objects outside are due.
use Rattle.std.proofs.Common.{◌≡◌, ℕ, List, Option, Some, None, Result, Ok, Err, refl, sym, ap, subst, ◌∙◌, IfSome, unwrap_or}
use Rattle.kt_ends.specs.Ending.{IsRefusal}
use Rattle.kt_ends.specs.World.{World, world}
use Rattle.kt_ends.specs.declared.status.Refusal.{Refusal}
use Rattle.kt_kat.specs.Files.{files_of}
use Rattle.kt_kat.specs.Found.{FoundFirst}
use Rattle.kt_keys.specs.declared.need.Need.{Need}
use Rattle.kt_load.specs.Loaded.{loaded}
use Rattle.kt_load.specs.declared.stop.LoadStop.{LoadStop}
use Rattle.kt_out.specs.InputFiles.{InputsState}
use Rattle.kt_out.specs.NamedFiles.{FileMap}
use Rattle.kt_out.specs.OutputFiles.{OutputsState}
use Rattle.kt_out.specs.Reading.{SourceState}
use Rattle.kt_out.specs.Writing.{SinkState}
use Rattle.kt_rec.specs.Rows.{Rows}
use Rattle.kt_tools.specs.Due.{AllFirst, AreNotDue, FilesFirst, InOrder, TablesFirst}
use Rattle.kt_tools.specs.GeneratedRun.{generated_outcome}
use Rattle.kt_tools.specs.Needs.{command_need}
use Rattle.kt_words.specs.FileNames.{file_names}
use Rattle.kt_words.specs.declared.command.Command.{Command}
use Rattle.kt_words.specs.declared.command.Command.TheVariants.{Gen, Kat}
use Rattle.kt_words.specs.declared.stop.WordStop.{WordStop}

-- tables that are loaded are not refused
pub loaded_first : (command : Command) (wanted : Need) → command_need command ≡ Some wanted → (before after : World) (rows : Rows) → IfSome before.inputs.held (λ files. loaded files wanted ≡ Ok rows) → TablesFirst command before after
loaded_first command wanted is before after rows exact = λ need has. by need (ap (λ (found : Option Need). unwrap_or found wanted) (sym is ∙ has)) before.inputs.held exact
  where
    by : (need : Need) → wanted ≡ need → (held : Option FileMap) → IfSome held (λ files. loaded files wanted ≡ Ok rows) → IfSome held (λ files. (why : LoadStop) → loaded files need ≡ Err why → AreNotDue before after)
    by need same None exact = tt
    by need same (Some files) exact = λ why refused. let clash : Ok rows ≡ Err why = sym exact ∙ (ap (loaded files) same ∙ refused) in cc

-- where the other objects are as they were
pub kept_first : (command : Command) (before after : World) → AreNotDue before after → TablesFirst command before after
kept_first command before after kept = λ need has. by need before.inputs.held
  where
    by : (need : Need) (held : Option FileMap) → IfSome held (λ files. (why : LoadStop) → loaded files need ≡ Err why → AreNotDue before after)
    by need None = tt
    by need (Some files) = λ why refused. kept

-- a command that needs no table
pub no_tables : (command known : Command) → command ≡ known → command_need known ≡ None → (before after : World) → TablesFirst command before after
no_tables command known is none before after = λ need has. let clash : None ≡ Some need = sym none ∙ (ap command_need (sym is) ∙ has) in cc

-- ---- files and sets

-- a command by itself, which needs no table
pub by_itself : (words : List (List ℕ)) (command known : Command) → command ≡ known → command_need known ≡ None → (before after : World) → FilesFirst words known before after → AllFirst words command before after
by_itself words command known is none before after files = record {
  tables = no_tables command known is none before after;
  files = subst (λ (one : Command). FilesFirst words one before after) (sym is) files;
}

-- a command that needs tables joins no files and makes no set
over_tables : (words : List (List ℕ)) (command : Command) (need : Need) → command_need command ≡ Some need → (before after : World) → FilesFirst words command before after
over_tables words Kat need is before after = cc
over_tables words (Gen seed items events workers) need is before after = cc
over_tables words command need is before after = tt

pub with_tables_first : (words : List (List ℕ)) (command : Command) (need : Need) → command_need command ≡ Some need → (before after : World) → TablesFirst command before after → AllFirst words command before after
with_tables_first words command need is before after tables = record { tables = tables; files = over_tables words command need is before after }

-- `kat` has the input files and the sink alone
pub kat_first : (words : List (List ℕ)) (inputs now : InputsState) (outputs : OutputsState) (source : SourceState) (sink sink_now : SinkState) → FoundFirst (file_names words) inputs sink sink_now → FilesFirst words Kat (world inputs outputs source sink) (world now outputs source sink_now)
kat_first words inputs now outputs source sink sink_now first = by inputs.held first
  where
    by : (held : Option FileMap) → IfSome held (λ files. (why : Refusal) → files_of (file_names words) files ≡ Err why → sink_now ≡ sink) → IfSome held (λ files. (why : Refusal) → files_of (file_names words) files ≡ Err why → AreNotDue (world inputs outputs source sink) (world now outputs source sink_now))
    by None same = tt
    by (Some files) same = λ why refused. record { outputs = refl; source = refl; sink = same why refused }

-- `gen` has the sink alone
pub gen_first : (words : List (List ℕ)) (seed items events workers : ℕ) (inputs : InputsState) (outputs : OutputsState) (source : SourceState) (sink sink_now : SinkState) → (IsRefusal (generated_outcome seed items events).status → sink_now ≡ sink) → FilesFirst words (Gen seed items events workers) (world inputs outputs source sink) (world inputs outputs source sink_now)
gen_first words seed items events workers inputs outputs source sink sink_now same = λ refused. record { outputs = refl; source = refl; sink = same refused }

-- ---- by what the words are

pub command_first : (words : List (List ℕ)) (read : Result Command WordStop) (command : Command) (before after : World) → read ≡ Ok command → AllFirst words command before after → InOrder words read before after
command_first words read command before after is first = subst (λ (one : Result Command WordStop). InOrder words one before after) (sym is) first

pub words_first : (words : List (List ℕ)) (read : Result Command WordStop) (stop : WordStop) (before : World) → read ≡ Err stop → InOrder words read before before
words_first words read stop before is = subst (λ (one : Result Command WordStop). InOrder words one before before) (sym is) (record { outputs = refl; source = refl; sink = refl })
