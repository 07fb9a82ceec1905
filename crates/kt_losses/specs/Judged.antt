-- What a tool over losses gives, run by run: each record is judged by the ids that there are and by what its run adds to, and each
-- closed run is handed to the tool.
-- The rules: docs/STREAMS.md, "Tools over losses".
use Rattle.std.specs.Prelude.{ℕ, ◌+◌, Bool, true, false, cond, nat_eq, List, [], map, Option, None, Some, Ok, Err}
use Rattle.std.specs.List.{list_any}
use Rattle.kt_checks.specs.Checks.{samples_refusal}
use Rattle.kt_ends.specs.Outcome.{Outcome}
use Rattle.kt_ends.specs.declared.status.Refusal.{Refusal}
use Rattle.kt_ends.specs.declared.status.Refusal.TheVariants as refusal
use Rattle.kt_keys.specs.declared.need.Refusal.{Refusal as CheckRefusal}
use Rattle.kt_load.specs.FileNames.{file_name_of}
use Rattle.kt_loop.specs.ByRun.{RunCalculation, outcome_by_run}
use Rattle.kt_loop.specs.Calculation.{Step}
use Rattle.kt_loop.specs.Contents.{Contents}
use Rattle.kt_loop.specs.Outcome.{gives, stream_status}
use Rattle.kt_loop.specs.RecordStreams.{contents_of}
use Rattle.kt_loop.specs.Runs.{bare, loss_key}
use Rattle.kt_rec.specs.Rows.{Rows}
use Rattle.kt_runs.specs.RunLosses.{goes_past}
use Rattle.kt_stream.specs.Losses.{loss_form, loss_shape}
use Rattle.kt_stream.specs.declared.entry.LossRecord.{LossRecord}
use Rattle.kt_stream.specs.declared.kind.Head.{Head}
use Rattle.kt_stream.specs.declared.kind.StreamKind.{StreamKind}
use Rattle.kt_stream.specs.declared.kind.StreamKind.TheVariants as stream
use Rattle.kt_tables.specs.Portfolio.{PortfolioRows}

-- what is made of a stream of losses: whether they are those of items, else of outputs; what stands at the header; and what a run
-- gives
pub record LossTable : Type 0 where
  pub items : Bool
  pub heading : Head → List ℕ
  pub text : PortfolioRows → Head → List LossRecord → List ℕ

-- the ids that a record may have: of items, or of outputs
abbrev pub loss_ids : Bool → Rows → List ℕ
loss_ids true rows = map (λ row. row.item_id) rows.items
loss_ids false rows = map (λ row. row.output_id) rows.fm_xref

-- whether an item, or an output, has an id
abbrev pub is_known : Bool → Rows → ℕ → Bool
is_known items rows id = list_any (nat_eq id) (loss_ids items rows)

-- the kind of the stream
abbrev pub losses_kind : Bool → StreamKind
losses_kind true = stream.Gul
losses_kind false = stream.Loss

-- the refusal of the tables by a check
abbrev pub check_refusal : CheckRefusal → Refusal
check_refusal found = refusal.Check found.number (file_name_of found.table) found.row

-- at the header: what stands there, unless a check of the tables fails with the stream's samples
abbrev pub judged_opening : {T : Type 0} → (T → LossTable) → T × PortfolioRows → Head → Option CheckRefusal → Step (T × PortfolioRows) Refusal
judged_opening table made head None = record { text = (table made.0).heading head; next = Ok made }
judged_opening table made head (Some found) = record { text = []; next = Err (check_refusal found) }

-- a record is refused for an id that is none, or for taking the losses of one sidx in its run too far
abbrev pub loss_refusal : Bool → Bool → ℕ → Option Refusal
loss_refusal known past at = cond known (cond past (Some (refusal.LossSum at)) None) (Some (refusal.UnknownId (at + 4)))

-- the calculation of a tool that makes this of a portfolio: what stands at the header, and then what each closed run gives
abbrev pub judged_runs : {T : Type 0} → (T → LossTable) → RunCalculation Head LossRecord (T × PortfolioRows) Refusal
judged_runs table = record {
  opens = λ head made. judged_opening table made head (samples_refusal made.1.rows made.1.need head.samples);
  refuses = λ head made run placed. loss_refusal (is_known (table made.0).items made.1.rows placed.entry.id) (goes_past (bare run) placed.entry) placed.at;
  closes = λ head made records. (table made.0).text made.1 head records;
}

-- what a stream of losses holds
abbrev pub loss_contents : Bool → List ℕ → Contents Head LossRecord
loss_contents items bytes = contents_of loss_form (loss_shape (losses_kind items)) bytes

-- nothing without a header; else what stands there and what each closed run gives, up to the first refused record
abbrev pub judged_behind : LossTable → PortfolioRows → Option Head → Contents Head LossRecord → Outcome
judged_behind table portfolio None contents = gives (stream_status contents.fault) []
judged_behind table portfolio (Some head) contents =
    let runs = judged_runs (λ (one : LossTable). one) in
    let opening = runs.opens head (table, portfolio) in
    outcome_by_run loss_key runs head opening.text opening.next contents.entries contents.fault

-- what a tool makes of a portfolio and a stream of losses
abbrev pub judged_outcome : LossTable → PortfolioRows → List ℕ → Outcome
judged_outcome table portfolio source =
    let contents = loss_contents table.items source in
    judged_behind table portfolio contents.head contents
