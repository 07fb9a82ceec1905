-- What the parts of a round make of its events, and how a run stops in one.
-- The rules: docs/ARCHITECTURE.md, "A run of all stages".
use Rattle.std.specs.Prelude.{◌≡◌, ◌≤◌, ◌+◌, ◌*◌, ◌-◌, ◌/◌, ℕ, List, [], ◌∷◌, All, drop, length, take, Option, Some, None, Result, Ok, Err}
use Rattle.kt_ends.specs.declared.status.Refusal.{Refusal}
use Rattle.kt_ends.specs.declared.status.Refusal.TheVariants as refusal
use Rattle.kt_ends.specs.declared.tool_stop.ToolStop.{ToolStop}
use Rattle.kt_ends.specs.declared.tool_stop.ToolStop.TheVariants.{Refused, ReadFault, WriteFault, NoMemory}
use Rattle.kt_event.specs.Losses.{event_block_of}
use Rattle.kt_event.specs.Plan.{IsPlan}
use Rattle.kt_block.specs.declared.block.EventBlock.{EventBlock}
use Rattle.kt_event.specs.declared.plan.Plan.{Plan}
use Rattle.kt_block.specs.declared.terms.Terms.{Terms}
use Rattle.kt_rec.specs.FootRows.{first_refused_row}
use Rattle.kt_rec.specs.Rows.{Rows}
use Rattle.kt_rec.specs.declared.foot_rows.ModelStop.{ModelStop}
use Rattle.kt_rec.specs.declared.foot_rows.ModelStop.TheVariants as stop
use Rattle.kt_stream.specs.Pairs.{IsId}
use Rattle.kt_tables.specs.Portfolio.{PortfolioRows}
use Rattle.kt_chain.specs.Events.{RunInput, foot_of}
use Rattle.kt_fold.specs.Folds.{FitsFold, FoldState, IsGoodPart}
use Rattle.kt_fold.specs.declared.part.PartBlock.{PartBlock}
use Rattle.kt_load.specs.EventRows.{EventRows}

-- ---- the rows of the events of a round

-- an event has the footprint rows that the run has for it
abbrev pub HasRows : RunInput → EventRows → Type 0
HasRows run given = given.rows ≡ foot_of run given.event

-- ---- what a part makes of its events

-- what an event gives by its rows
abbrev pub given_block : Terms → Rows → EventRows → EventBlock
given_block terms rows given = event_block_of terms rows given.event given.rows

-- a block before those of later events; or none of them, where its rows are refused
abbrev pub before_part : EventRows → EventBlock → Option ModelStop → PartBlock → PartBlock
before_part given block None later = record { blocks = block ∷ later.blocks; refused = later.refused }
before_part given block (Some (stop.Row row cause)) later = record { blocks = []; refused = Some (record { event = given.event; row = row; cause = cause }) }
before_part given block (Some stop.OutOfMemory) later = record { blocks = block ∷ later.blocks; refused = later.refused }

-- the blocks of events, up to the first whose rows are refused
abbrev pub part_of : Terms → Rows → List EventRows → PartBlock
part_of terms rows [] = record { blocks = []; refused = None }
part_of terms rows (given ∷ later) = before_part given (given_block terms rows given) (first_refused_row given.rows) (part_of terms rows later)

-- the events of a part of a round: so many from a place on
abbrev pub part_events : ℕ → List EventRows → ℕ → List EventRows
part_events batch given part = take batch (drop (part * batch) given)

-- the number of parts of so many events: the last one may have fewer
abbrev pub part_count : ℕ → ℕ → ℕ
part_count batch events = (events + batch - 1) / batch

-- the parts of a round as contracts see them: the terms and the rows of the run, the events with their rows, and how many a part has
pub record RoundParts : Type 0 where
  pub terms : Terms
  pub rows : Rows
  pub given : List EventRows
  pub batch : ℕ

-- what the parts of a round stand on: the plan of the run is that of the portfolio, a round has at most 64 events, a part 1 to 4
pub record AreParts (portfolio : PortfolioRows) (plan : Plan) (given : List EventRows) (batch : ℕ) : Type 0 where
  pub plan_is : IsPlan portfolio plan
  pub events : All (λ one. IsId one.event) given
  pub few : length given ≤ 64
  pub some : 1 ≤ batch
  pub most : batch ≤ 4

-- a part that may be made: the blocks of its events, whose records are those of a stream
pub record IsPart (round : RoundParts) (number : ℕ) (part : PartBlock) : Type 0 where
  pub is : part ≡ part_of round.terms round.rows (part_events round.batch round.given number)
  pub good : IsGoodPart round.terms.samples part

-- the answer for a stop of the fold: why it refuses the run, or want of memory where that stopped it
abbrev pub IsWhy : {E : Type 0} → Option Refusal → Result (Option Refusal) E → Type 0
IsWhy (Some why) answer = answer ≡ Ok (Some why)
IsWhy None (Ok refusal) = ⊥
IsWhy None (Err memory) = Unit {0}

-- ---- how a run stops

-- a refusal of an event of a run: by its footprint rows, or by a limit of cells and periods
abbrev pub IsEventRefusal : Refusal → Type 0
IsEventRefusal (refusal.Row event row cause) = Unit {0}
IsEventRefusal (refusal.Cells event held) = Unit {0}
IsEventRefusal (refusal.Period event key held more) = Unit {0}
IsEventRefusal other = ⊥

-- a stop of a run is such a refusal, a fault, or want of memory
abbrev pub IsRunStop : ToolStop → Type 0
IsRunStop (Refused why) = IsEventRefusal why
IsRunStop ReadFault = Unit {0}
IsRunStop WriteFault = Unit {0}
IsRunStop NoMemory = Unit {0}

-- what fits a run fits its fold: records of a stream with as many samples as its terms have
abbrev pub FitsRun : ℕ → FoldState → Type 0
FitsRun samples fold = (part : PartBlock) → IsGoodPart samples part → FitsFold fold part
