-- A run of all stages over a made-up set, and what is shown of it.
-- The rules: docs/GENERATOR.md, "What is shown of a run"; docs/COMMANDS.md, "gen".
use Rattle.std.specs.Prelude.{◌≡◌, ℕ, List, map, true}
use Rattle.kt_out.specs.NamedFiles.{File, FileMap, bytes_of}
use Rattle.kt_rec.specs.declared.perspective.Perspective.TheVariants.{Ri}
use Rattle.kt_ends.specs.Ending.{IsMissing}
use Rattle.kt_ends.specs.Endings.{nothing, writes_text}
use Rattle.kt_ends.specs.Outcome.{Outcome}
use Rattle.kt_ends.specs.declared.status.Status.{Status}
use Rattle.kt_ends.specs.declared.status.Status.TheVariants as status
use Rattle.kt_ends.specs.declared.tool_stop.ToolStop.{ToolStop}
use Rattle.kt_ends.specs.declared.tool_stop.ToolStop.TheVariants.{Refused, ReadFault, WriteFault, NoMemory}
use Rattle.kt_event.specs.Needs.{chain_need}
use Rattle.kt_block.specs.declared.terms.Terms.{Terms}
use Rattle.kt_files.specs.OutputFiles.{output_name}
use Rattle.kt_files.specs.declared.file.OutputFile.{OutputFile}
use Rattle.kt_gen.specs.FileLines.{file_lines}
use Rattle.kt_gen.specs.Generated.{generated_files}
use Rattle.kt_gen.specs.Shown.{lines_of_files}
use Rattle.kt_load.specs.Loaded.{loaded}
use Rattle.kt_chain.specs.Events.{run_input}
use Rattle.kt_chain.specs.Outcome.{chain_outcome}
use Rattle.kt_front.specs.Loading.{with_tables}
use Rattle.kt_tools.specs.Needs.{chain_terms}

-- what is computed of a made-up set: net losses behind its one reinsurance stage by rule 2, with 100 samples, where the losses of a
-- coverage are cut
abbrev pub generated_terms : Terms
generated_terms = chain_terms 100 true 2 Ri 1

-- the files of the set
abbrev pub generated_map : ℕ → ℕ → ℕ → FileMap
generated_map seed items events = bytes_of (generated_files seed items events)

-- the run over the set
unfoldable pub generated_run : ℕ → ℕ → ℕ → Outcome
generated_run seed items events = with_tables (loaded (generated_map seed items events) (chain_need generated_terms)) (λ rows. chain_outcome (run_input generated_terms rows (generated_map seed items events)))

-- of a run that is done a line for each of its files is shown, and of one that is refused nothing
abbrev pub shown_by : Status → List File → Outcome
shown_by status.Done files = writes_text (lines_of_files files)
shown_by end files = nothing end

abbrev pub shown : Outcome → Outcome
shown run = shown_by run.status run.files

-- what `gen` gives
abbrev pub generated_outcome : ℕ → ℕ → ℕ → Outcome
generated_outcome seed items events = shown (generated_run seed items events)

-- a run over the set in memory is done, and its files stand under these names
pub record MadeInMemory (run : Outcome) (held : List File) (files : List OutputFile) : Type 0 where
  pub done : run.status ≡ status.Done
  pub lines : file_lines (bytes_of held) (map output_name files) ≡ lines_of_files run.files

-- it has stopped: it is refused, and never because a file is missing; or memory is wanting. In memory nothing fails.
abbrev pub StopsInMemory : Outcome → ToolStop → Type 0
StopsInMemory run (Refused why) = (run.status ≡ status.Refused why) × (IsMissing (status.Refused why) → ⊥)
StopsInMemory run ReadFault = ⊥
StopsInMemory run WriteFault = ⊥
StopsInMemory run NoMemory = Unit {0}
