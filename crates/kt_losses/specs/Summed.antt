-- Where the stage stands that makes summaries of losses.
-- The rules: docs/STREAMS.md, "Tools over losses".
use Rattle.std.specs.Prelude.{◌≡◌, ◌⊎◌, ◌&&◌, ℕ, true, false, nat_eq, nat_lt, List, [], Option, None, Some}
use Rattle.kt_loop.specs.Runs.{bare, joins, loss_key}
use Rattle.kt_losses.specs.Judged.{LossTable}
use Rattle.kt_losses.specs.Tables.{perspective_of, summary_table}
use Rattle.kt_losses.specs.declared.summing.LastLoss.{LastLoss}
use Rattle.kt_losses.specs.declared.summing.SummarySet.{SummarySet}
use Rattle.kt_runs.specs.RunLosses.{event_of}
use Rattle.kt_stream.specs.declared.entry.LossRecord.{LossRecord}
use Rattle.kt_stream.specs.declared.entry.Placed.{Placed}
use Rattle.kt_stream.specs.declared.kind.Head.{Head}
use Rattle.kt_sum.specs.RunSummaries.{AreOf, AreSummaries, HoldsRun, IsReady}
use Rattle.kt_sum.specs.declared.run_summaries.RunSummaries.{RunSummaries}
use Rattle.kt_tables.specs.Portfolio.{PortfolioRows}

-- what is made of a summary set
abbrev pub table_of_set : SummarySet → LossTable
table_of_set of = summary_table of.items of.set

-- the stage stands at an open run: its last record decides what goes on it, and the sums are those of its records
pub record StandsAt (portfolio : PortfolioRows) (of : SummarySet) (run : List (Placed LossRecord)) (last : LastLoss) (summaries : RunSummaries) : Type 0 where
  pub joins_is : (placed : Placed LossRecord) → joins loss_key run placed ≡ (last.is_open && (nat_eq last.event placed.entry.event && nat_lt last.id placed.entry.id))
  pub event_is : last.is_open ≡ true → last.event ≡ event_of (bare run)
  pub none : last.is_open ≡ false → run ≡ []
  pub are : AreOf portfolio (perspective_of of.items) of.set summaries
  pub holds : (samples : ℕ) → IsReady samples summaries → HoldsRun portfolio (perspective_of of.items) of.set samples (bare run) summaries

-- a record goes on a run, or there is none
abbrev pub GoesOn : List (Placed LossRecord) → Placed LossRecord → Type 0
GoesOn run placed = (joins loss_key run placed ≡ true) ⊎ (run ≡ [])

-- it is ready for a header, or for the records behind this one
abbrev pub IsReadyAt : Option Head → LastLoss → RunSummaries → Type 0
IsReadyAt None last summaries = (last.is_open ≡ false) × AreSummaries summaries
IsReadyAt (Some head) last summaries = IsReady head.samples summaries
