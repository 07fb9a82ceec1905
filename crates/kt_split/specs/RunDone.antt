-- A run of all stages that is done, and that its words tell it: which tables it loaded, and that it was done over them.
-- The rules: docs/COMMANDS.md, "chain"; docs/REFUSALS.md, "Order".
use Rattle.std.specs.Prelude.{◌≡◌, ℕ, Bool, List, refl, Result, Ok, Err}
use Rattle.std.proofs.Common.{sym, ap, ◌∙◌}
use Rattle.kt_cells.specs.declared.stop.TableStop.{TableStop}
use Rattle.kt_cells.specs.declared.stop.TableStop.TheVariants as table
use Rattle.kt_chain.specs.Events.{run_input}
use Rattle.kt_chain.specs.Outcome.{chain_outcome}
use Rattle.kt_ends.specs.Stops.{stop_status}
use Rattle.kt_ends.specs.declared.status.Status.TheVariants.{Done}
use Rattle.kt_event.specs.Needs.{chain_need}
use Rattle.kt_block.specs.Terms.{AreTerms}
use Rattle.kt_block.specs.declared.terms.Terms.{Terms}
use Rattle.kt_load.specs.Loaded.{loaded}
use Rattle.kt_load.specs.declared.stop.LoadStop.{LoadStop}
use Rattle.kt_load.specs.declared.stop.LoadStop.TheVariants as load
use Rattle.kt_out.specs.NamedFiles.{FileMap}
use Rattle.kt_rec.specs.Rows.{Rows}
use Rattle.kt_rec.specs.declared.perspective.Perspective.{Perspective}
use Rattle.kt_front.specs.Loading.{load_stop, table_stop, with_tables}
use Rattle.kt_tools.specs.Needs.{chain_terms}
use Rattle.kt_tools.specs.Outcome.{command_outcome, outcome, words_outcome}
use Rattle.kt_words.specs.Command.{command_of}
use Rattle.kt_words.specs.declared.command.Command.{Command}
use Rattle.kt_words.specs.declared.command.Command.TheVariants.{Chain}
use Rattle.kt_words.specs.declared.stop.WordStop.{WordStop}

-- the run of all stages over these files, whose tables have these rows, ends with all its tables
pub record IsDoneOver (files : FileMap) (terms : Terms) (rows : Rows) : Type 0 where
  pub loads : loaded files (chain_need terms) ≡ Ok rows
  pub done : (chain_outcome (run_input terms rows files)).status ≡ Done

-- a run with these terms loads its tables from these files, and ends with all tables of its events
pub record IsDoneRun (files : FileMap) (terms : Terms) : Type 0 where
  pub rows : Rows
  pub over : IsDoneOver files terms rows

-- These words are a run of all stages with these terms, its tables load from these files with these rows, and the run ends with Done,
-- whatever source it is given: it reads none.
pub record EndsDone (words : List (List ℕ)) (files : FileMap) (terms : Terms) (rows : Rows) : Type 0 where
  pub workers : ℕ
  pub batch : ℕ
  pub source : List ℕ
  pub are : AreTerms terms
  pub command : command_of words ≡ Ok (Chain terms.samples terms.cut terms.rule terms.last terms.stages workers batch)
  pub loads : loaded files (chain_need terms) ≡ Ok rows
  pub done : (outcome words files source).status ≡ Done

-- so the run over these files ends with all its tables
pub ends_over : (words : List (List ℕ)) (files : FileMap) (terms : Terms) (rows : Rows) → EndsDone words files terms rows → IsDoneOver files terms rows
ends_over words files terms rows ends = record {
  loads = ends.loads;
  done =
      ap (λ (read : Result Rows LoadStop). (with_tables read (λ one. chain_outcome (run_input terms one files))).status) (sym ends.loads)
      ∙ (ap (λ (read : Result Command WordStop). (words_outcome words read files ends.source).status) (sym ends.command) ∙ ends.done);
}

-- what stops a table is no end with all tables
table_stops : (name : List ℕ) (why : TableStop) → stop_status (table_stop name why) ≡ Done → ⊥
table_stops name table.NotProfile is = cc
table_stops name (table.WrongTable found) is = cc
table_stops name (table.WrongVersion found) is = cc
table_stops name (table.CutRecord row) is = cc
table_stops name (table.Bad row column cause) is = cc
table_stops name table.OutOfMemory is = cc

load_stops : (why : LoadStop) → stop_status (load_stop why) ≡ Done → ⊥
load_stops (load.Missing name) is = cc
load_stops (load.TooLarge name) is = cc
load_stops (load.Table name why) is = table_stops name why is
load_stops (load.Check number name row) is = cc
load_stops load.ReadFault is = cc
load_stops load.OutOfMemory is = cc

-- so it is where the words of the run end so
pub run_is_done : (words : List (List ℕ)) (samples : ℕ) (cut : Bool) (rule : ℕ) (last : Perspective) (stages workers batch : ℕ) (files : FileMap) (source : List ℕ) → (command_outcome words (Chain samples cut rule last stages workers batch) files source).status ≡ Done → IsDoneRun files (chain_terms samples cut rule last stages)
run_is_done words samples cut rule last stages workers batch files source is = by (loaded files (chain_need (chain_terms samples cut rule last stages))) refl is
  where
    by : (read : Result Rows LoadStop) → loaded files (chain_need (chain_terms samples cut rule last stages)) ≡ read → (with_tables read (λ rows. chain_outcome (run_input (chain_terms samples cut rule last stages) rows files))).status ≡ Done → IsDoneRun files (chain_terms samples cut rule last stages)
    by (Ok rows) loads h = record { rows = rows; over = record { loads = loads; done = h } }
    by (Err why) loads h = absurd (load_stops why h)
