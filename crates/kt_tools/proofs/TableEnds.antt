-- How a command ends that loads tables first.
use Rattle.std.proofs.Common.{◌≡◌, ℕ, List, Option, Some, Result, Ok, Err, refl, sym, ap, subst, ◌∙◌}
use Rattle.std.specs.Prelude.{IfSome}
use Rattle.kt_cells.specs.declared.stop.TableStop.TheVariants as table
use Rattle.kt_ends.specs.Ending.{IsMissing, ToolEnds}
use Rattle.kt_ends.specs.Endings.{UnderWay, nothing, ends_as, ends_for_memory, ends_missing, ends_refused, ends_unread_files}
use Rattle.kt_ends.specs.Stops.{stop_status}
use Rattle.kt_ends.specs.World.{Finds, Uses, World, world}
use Rattle.kt_ends.specs.declared.status.Refusal.{Refusal}
use Rattle.kt_ends.specs.declared.status.Status.{Status}
use Rattle.kt_ends.specs.declared.status.Status.TheVariants as status
use Rattle.kt_keys.specs.declared.need.Need.{Need}
use Rattle.kt_load.specs.Ends.{AfterStop, TellsLoad}
use Rattle.kt_load.specs.Loaded.{loaded}
use Rattle.kt_load.specs.declared.stop.LoadStop.{LoadStop}
use Rattle.kt_load.specs.declared.stop.LoadStop.TheVariants as load
use Rattle.kt_out.specs.InputFiles.{InputsState}
use Rattle.kt_out.specs.NamedFiles.{FileMap}
use Rattle.kt_out.specs.OutputFiles.{OutputsState}
use Rattle.kt_out.specs.Reading.{SourceState}
use Rattle.kt_out.specs.Writing.{SinkState}
use Rattle.kt_rec.specs.Rows.{Rows}
use Rattle.kt_tables.specs.Portfolio.{PortfolioRows}
use Rattle.kt_front.specs.Loading.{load_stop, with_tables}
use Rattle.kt_tools.specs.Needs.{command_need}
use Rattle.kt_tools.specs.Outcome.{command_outcome, over_tables, tool_outcome}
use Rattle.kt_tools.specs.Uses.{command_uses}
use Rattle.kt_tools.proofs.NeedLemmas.{uses_files}
use Rattle.kt_words.specs.declared.command.Command.{Command}
use Rattle.kt_front.proofs.Converting.{told_of}

module _ (words : List (List ℕ)) (command : Command) (need : Need) (needs : command_need command ≡ Some need) (before now : InputsState) (outputs : OutputsState) (source : SourceState) (sink : SinkState) where
  abbrev uses : Uses
  uses = command_uses command

  abbrev at_first : World
  at_first = world before outputs source sink

  abbrev at_last : World
  at_last = world now outputs source sink

  -- the outcome by what the tables come to
  by_tables : (files : FileMap) (told bytes : List ℕ) (tables : Result Rows LoadStop) → Finds uses at_first files told → IfSome before.held (λ files. loaded files need ≡ tables)
      → command_outcome words command files bytes ≡ with_tables tables (λ rows. tool_outcome words command files (record { rows = rows; need = need }) bytes)
  by_tables files told bytes tables finds tells =
      ap (λ (one : Option Need). over_tables one files (λ portfolio. tool_outcome words command files portfolio bytes)) needs
      ∙ ap (λ (r : Result Rows LoadStop). with_tables r (λ rows. tool_outcome words command files (record { rows = rows; need = need }) bytes)) (told_of (λ f. loaded f need ≡ tables) before.held files (finds.files_told (uses_files command need needs)) tells)

  -- nothing was counted
  way : now ≡ before → UnderWay uses at_first at_last
  way same = record { inputs = same; outputs = refl; sink = refl; reads = refl; source = λ unused. refl }

  -- a refusal that is no missing file
  refuses : (stop : LoadStop) (why : Refusal) → (IsMissing (status.Refused why) → ⊥) → stop_status (load_stop stop) ≡ status.Refused why → now ≡ before → IfSome before.held (λ files. loaded files need ≡ Err stop) → ToolEnds uses (command_outcome words command) at_first at_last (status.Refused why)
  refuses stop why other is same tells = ends_refused _ uses _ _ _ why other (way same) (λ files bytes finds. by_tables files bytes bytes (Err stop) finds tells ∙ ap nothing is)

  -- the tables are refused, or could not be read
  pub ends_unloaded : (stop : LoadStop) → IfSome before.held (λ files. TellsLoad (loaded files need) stop) → AfterStop before now stop → ToolEnds uses (command_outcome words command) at_first at_last (stop_status (load_stop stop))
  ends_unloaded load.ReadFault tells after = ends_unread_files _ uses _ _ _ (uses_files command need needs) after refl refl refl
  ends_unloaded load.OutOfMemory tells after = ends_for_memory _ uses _ _ _ (way after)
  ends_unloaded (load.Missing name) tells after = ends_missing _ uses _ _ _ name (uses_files command need needs) after refl refl refl (λ files bytes finds. by_tables files bytes bytes (Err (load.Missing name)) finds tells)
  ends_unloaded (load.Table name table.OutOfMemory) tells after = ends_for_memory _ uses _ _ _ (way after)
  ends_unloaded stop tells after = refuses stop _ (λ missing. missing) refl after tells

  -- the tool is run over the tables
  pub ends_over : (portfolio : PortfolioRows) → portfolio.need ≡ need → now ≡ before → IfSome before.held (λ files. loaded files need ≡ Ok portfolio.rows) → (after : World) (end : Status)
      → ToolEnds uses (λ files bytes. tool_outcome words command files portfolio bytes) at_last after end → ToolEnds uses (command_outcome words command) at_first after end
  ends_over portfolio is same tells after end ended =
      let portfolio_is : record { rows = portfolio.rows; need = need } ≡ portfolio = ap (λ (one : Need). record { rows = portfolio.rows; need = one }) (sym is) in
      ends_as (Finds uses at_first) (Finds uses at_first) uses (λ files bytes. tool_outcome words command files portfolio bytes) (command_outcome words command) at_first after end
      (λ files told finds. (finds, λ bytes. sym (by_tables files told bytes (Ok portfolio.rows) finds tells ∙ ap (λ (one : PortfolioRows). tool_outcome words command files one bytes) portfolio_is)))
      (subst (λ (state : InputsState). ToolEnds uses (λ files bytes. tool_outcome words command files portfolio bytes) (world state outputs source sink) after end) same ended)
