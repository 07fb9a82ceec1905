-- What the steps of a run leave of the input files and the output files.
-- The rules: docs/REFUSALS.md, "Order" and "Statuses".
use Rattle.std.specs.Prelude.{◌≡◌, ◌≤◌, ℕ, List, [], ◌++◌, true, false, map, Option, Some, None, Result, Ok, Err, IfSome, IsSomeAnd}
use Rattle.std.specs.List.{AllByRecursion}
use Rattle.kt_cell.specs.Standing.{StandsFor}
use Rattle.kt_ends.specs.Ending.{Made, Verdict}
use Rattle.kt_ends.specs.Stops.{end_status}
use Rattle.kt_ends.specs.World.{Uses}
use Rattle.kt_ends.specs.declared.status.Refusal.{Refusal}
use Rattle.kt_ends.specs.declared.tool_stop.ToolStop.{ToolStop}
use Rattle.kt_ends.specs.declared.tool_stop.ToolStop.TheVariants.{Refused, ReadFault, WriteFault, NoMemory}
use Rattle.kt_event.specs.Plan.{IsPlan, terms_of}
use Rattle.kt_event.specs.declared.plan.Plan.{Plan}
use Rattle.kt_block.specs.declared.terms.Terms.{Terms}
use Rattle.kt_files.specs.OutputFiles.{output_files}
use Rattle.kt_files.specs.declared.file.OutputFile.{OutputFile}
use Rattle.kt_load.specs.EventRows.{EventRows, footprint_name}
use Rattle.kt_out.specs.Counts.{Rose}
use Rattle.kt_out.specs.InputFiles.{InputsState, CountsFault}
use Rattle.kt_out.specs.NamedFiles.{FileMap}
use Rattle.kt_out.specs.OutputFiles.{OutputsState}
use Rattle.kt_outputs.specs.Files.{Makes}
use Rattle.kt_rec.specs.Rows.{Rows}
use Rattle.kt_tables.specs.Portfolio.{PortfolioRows}
use Rattle.kt_chain.specs.Events.{RunInput, all_added, block_of}
use Rattle.kt_chain.specs.Files.{files_upto}
use Rattle.kt_chain.specs.Outcome.{chain_outcome, event_refusal}
use Rattle.kt_chain.specs.Reached.{AreDone, Passes, StopsAt}
use Rattle.kt_chain.specs.Rounds.{HasRows}
use Rattle.kt_fold.specs.Folds.{FoldState, blocks_of}

-- a run's input is what these input files hold: its rows are those of the tables, its footprint is their file's
pub record IsRunOf (held : Option FileMap) (terms : Terms) (rows : Rows) (run : RunInput) : Type 0 where
  pub terms_are : run.terms ≡ terms
  pub rows_are : run.rows ≡ rows
  pub files : FileMap
  pub known : held ≡ Some files
  pub footprint : files footprint_name ≡ Some run.footprint

-- these events stand with their rows, where the input files are known
abbrev pub AreGivenRows : RunInput → List EventRows → Type 0
AreGivenRows run given = AllByRecursion (HasRows run) given

-- ---- what is counted

-- what a run leaves of the input files and of the count of faults of the output files, by how it ended
abbrev pub Counts : InputsState → InputsState → ℕ → ℕ → Result (Unit {0}) ToolStop → Type 0
Counts inputs inputs_now outputs outputs_now (Ok done) = (inputs_now ≡ inputs) × (outputs_now ≡ outputs)
Counts inputs inputs_now outputs outputs_now (Err (Refused why)) = (inputs_now ≡ inputs) × (outputs_now ≡ outputs)
Counts inputs inputs_now outputs outputs_now (Err ReadFault) = CountsFault inputs inputs_now × (outputs_now ≡ outputs)
Counts inputs inputs_now outputs outputs_now (Err WriteFault) = (inputs_now ≡ inputs) × Rose outputs outputs_now
Counts inputs inputs_now outputs outputs_now (Err NoMemory) = (inputs_now ≡ inputs) × (outputs_now ≡ outputs)

-- what a stop in reading leaves of the input files: a fault was counted, or memory was wanting
abbrev pub CountsRead : InputsState → InputsState → ToolStop → Type 0
CountsRead before after (Refused why) = ⊥
CountsRead before after ReadFault = CountsFault before after
CountsRead before after WriteFault = ⊥
CountsRead before after NoMemory = after ≡ before

-- ---- what a round does

-- the fold stands for all records of the events that are done, and keeps no part
pub record IsFolded (run : RunInput) (done : List ℕ) (fold : FoldState) : Type 0 where
  pub rows : fold.rows ≡ run.rows
  pub samples : fold.cells.samples ≡ run.terms.samples
  pub stands : StandsFor (all_added run done) fold.cells
  pub none_kept : fold.kept ≡ []

-- what all rounds of a run share: the portfolio, the terms, the files, how many workers there are, and how many events a part has
pub record RunShares : Type 0 where
  pub portfolio : PortfolioRows
  pub terms : Terms
  pub files : List OutputFile
  pub workers : ℕ
  pub batch : ℕ

-- the plan of a run is that of its portfolio, the files are those of both, there are 1 to 16 workers, and a part has 1 to 4 events
pub record IsRun (portfolio : PortfolioRows) (plan : Plan) (files : List OutputFile) (workers batch : ℕ) : Type 0 where
  pub plan_is : IsPlan portfolio plan
  pub files_are : files ≡ output_files portfolio.rows (terms_of plan).last
  pub some_workers : 1 ≤ workers
  pub few_workers : workers ≤ 16
  pub some : 1 ≤ batch
  pub most : batch ≤ 4

-- what the fold of a round did, by whether one of its events is refused
abbrev pub FoldEnds : RunInput → List ℕ → List ℕ → List ℕ → Option Refusal → FoldState → Type 0
FoldEnds run done events front None fold = (front ≡ events) × Passes (event_refusal run) done events × StandsFor (all_added run (done ++ events)) fold.cells
FoldEnds run done events front (Some why) fold = StopsAt (event_refusal run) done events (done ++ front) why

-- the events of a front of the round were folded, and their blocks are kept
pub record FoldsTo (run : RunInput) (done events : List ℕ) (refusal : Option Refusal) (fold : FoldState) : Type 0 where
  pub rows : fold.rows ≡ run.rows
  pub samples : fold.cells.samples ≡ run.terms.samples
  pub front : List ℕ
  pub kept : blocks_of fold.kept ≡ map (block_of run) front
  pub ends : FoldEnds run done events front refusal fold

-- what a round does to its events: they pass and their records are added; or one of them is refused
pub record GoesOn (run : RunInput) (done events : List ℕ) (fold : FoldState) : Type 0 where
  pub passes : Passes (event_refusal run) done events
  pub folded : IsFolded run (done ++ events) fold

pub record IsStopped (run : RunInput) (done events : List ℕ) (why : Refusal) : Type 0 where
  pub reached : List ℕ
  pub stops : StopsAt (event_refusal run) done events reached why

abbrev pub RoundGoes : RunInput → List ℕ → List ℕ → FoldState → Result (Unit {0}) ToolStop → Type 0
RoundGoes run done events fold (Ok all) = GoesOn run done events fold
RoundGoes run done events fold (Err (Refused why)) = IsStopped run done events why
RoundGoes run done events fold (Err ReadFault) = Unit {0}
RoundGoes run done events fold (Err WriteFault) = Unit {0}
RoundGoes run done events fold (Err NoMemory) = Unit {0}

-- the files with the rows of some events were made in place of those with the rows of others
abbrev pub MakesUpto : RunInput → List ℕ → List ℕ → OutputsState → OutputsState → Result (Unit {0}) ToolStop → Type 0
MakesUpto run done now before after answer = Makes (files_upto run done) (files_upto run now) before after answer

-- what a refused round makes of the output files: the rows of the events before the refused one
pub record MakesRefused (run : RunInput) (done events : List ℕ) (why : Refusal) (before after : OutputsState) : Type 0 where
  pub reached : List ℕ
  pub stops : StopsAt (event_refusal run) done events reached why
  pub makes : Makes {T = Unit {0}} {E = ToolStop} (files_upto run done) (files_upto run reached) before after (Ok tt)

-- what a round makes that a fault or want of memory ends: some front of the rows of events that are done in any case
pub record MakesSome (run : RunInput) (done events : List ℕ) (before after : OutputsState) (stop : ToolStop) : Type 0 where
  pub some : List ℕ
  pub are : AreDone (event_refusal run) done events some
  pub makes : Makes {T = Unit {0}} {E = ToolStop} (files_upto run done) (files_upto run some) before after (Err stop)

abbrev pub RoundMakes : RunInput → List ℕ → List ℕ → OutputsState → OutputsState → Result (Unit {0}) ToolStop → Type 0
RoundMakes run done events before after (Ok all) = Makes {T = Unit {0}} {E = ToolStop} (files_upto run done) (files_upto run (done ++ events)) before after (Ok tt)
RoundMakes run done events before after (Err (Refused why)) = MakesRefused run done events why before after
RoundMakes run done events before after (Err ReadFault) = MakesSome run done events before after ReadFault
RoundMakes run done events before after (Err WriteFault) = MakesSome run done events before after WriteFault
RoundMakes run done events before after (Err NoMemory) = MakesSome run done events before after NoMemory

-- ---- what a run does

-- the objects that a run uses: the input files and the output files
abbrev pub chain_uses : Uses
chain_uses = record { inputs = true; outputs = true; source = false; whole = false; sink = false }

-- what a run made of the output files, where they tell what they hold
abbrev pub RunMakes : RunInput → OutputsState → OutputsState → Result (Unit {0}) ToolStop → Type 0
RunMakes run before after answer = IfSome before.written (λ old. IsSomeAnd after.written (λ now. Made (chain_outcome run).files old now (end_status answer)))

-- what a run says
abbrev pub RunSays : RunInput → Result (Unit {0}) ToolStop → Type 0
RunSays run answer = Verdict (chain_outcome run).status (end_status answer)
