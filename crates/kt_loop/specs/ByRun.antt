-- Calculations that write what each closed run gives, one run after the other.
-- The rules: docs/STREAMS.md, "Runs".
use Rattle.std.specs.Prelude.{ℕ, Bool, true, false, List, [], ◌∷◌, ◌++◌, Option, Some, None, Result, Ok, Err}
use Rattle.std.specs.List.{flat_map}
use Rattle.kt_stream.specs.declared.entry.Placed.{Placed}
use Rattle.kt_stream.specs.declared.stop.StreamStop.{StreamStop}
use Rattle.kt_ends.specs.Outcome.{Outcome}
use Rattle.kt_ends.specs.declared.status.Refusal.{Refusal}
use Rattle.kt_ends.specs.declared.status.Refusal.TheVariants.{Stream}
use Rattle.kt_ends.specs.declared.status.Status.TheVariants.{Done, Refused}
use Rattle.kt_loop.specs.declared.run_key.RunKey.{RunKey}
use Rattle.kt_loop.specs.Calculation.{Step, Calculation}
use Rattle.kt_loop.specs.Outcome.{gives}
use Rattle.kt_loop.specs.Runs.{RunsRead, no_runs, with_run, bare, joins, read_more}

-- what is written at the header, which refusal a record behind those of its run has, and what a closed run gives
pub record RunCalculation (H E P R : Type 0) : Type 0 where
  pub opens : H → P → Step P R
  pub refuses : H → P → List (Placed E) → Placed E → Option R
  pub closes : H → P → List E → List ℕ

-- what the stage was made with, and the records of the run that is open
pub record OpenRun (P E : Type 0) : Type 0 where
  pub kept : P
  pub run : List (Placed E)

-- the step at the header
abbrev pub opened_run : {E P R : Type 0} → List (Placed E) → Result P R → Result (OpenRun P E) R
opened_run run (Ok kept) = Ok (record { kept = kept; run = run })
opened_run run (Err refusal) = Err refusal

-- a record that is not refused stands behind those of its run
abbrev pub judged : {E P R : Type 0} → P → List (Placed E) → Placed E → Option R → Result (OpenRun P E) R
judged kept run placed None = Ok (record { kept = kept; run = run ++ placed ∷ [] })
judged kept run placed (Some refusal) = Err refusal

-- what the records of a closed run give
abbrev pub given : {H E P R : Type 0} → RunCalculation H E P R → H → P → List (Placed E) → List ℕ
given runs head kept run = runs.closes head kept (bare run)

-- what a run gives that is closed: nothing where there is none
abbrev pub closing : {H E P R : Type 0} → RunCalculation H E P R → H → P → List (Placed E) → List ℕ
closing runs head kept [] = []
closing runs head kept (first ∷ later) = given runs head kept (first ∷ later)

-- a record goes on the open run, or closes it and opens the next, also where it is then refused
abbrev pub takes_run : {H E P R : Type 0} → RunCalculation H E P R → H → OpenRun P E → Placed E → Bool → Step (OpenRun P E) R
takes_run runs head state placed true = record { text = []; next = judged state.kept state.run placed (runs.refuses head state.kept state.run placed) }
takes_run runs head state placed false = record { text = closing runs head state.kept state.run; next = judged state.kept [] placed (runs.refuses head state.kept [] placed) }

-- the calculation run by run
abbrev pub by_run : {H E P R : Type 0} → (E → RunKey) → RunCalculation H E P R → Calculation H E (OpenRun P E) R
by_run key runs = record {
  opens = λ head state. record { text = (runs.opens head state.kept).text; next = opened_run state.run (runs.opens head state.kept).next };
  takes = λ head state placed. takes_run runs head state placed (joins key state.run placed);
  ends = λ head state. closing runs head state.kept state.run;
}

-- ---- the same in words of whole runs

-- the records of its run that stand before a record
abbrev pub run_before : {E : Type 0} → Bool → List (Placed E) → List (Placed E)
run_before true run = run
run_before false run = []

-- the runs of the records up to the first refused one, that one included, and its refusal
pub record RunsJudged (E R : Type 0) : Type 0 where
  pub runs : RunsRead E
  pub refusal : Option R

abbrev pub judge_next : {E R : Type 0} → Option R → RunsRead E → RunsJudged E R → RunsJudged E R
judge_next (Some refusal) runs later = record { runs = runs; refusal = Some refusal }
judge_next None runs later = later

abbrev pub judge_all : {E R : Type 0} → (E → RunKey) → (List (Placed E) → Placed E → Option R) → RunsRead E → List (Placed E) → RunsJudged E R
judge_all key refuses runs [] = record { runs = runs; refusal = None }
judge_all key refuses runs (next ∷ later) = judge_next (refuses (run_before (joins key runs.last next) runs.last) next) (read_more key runs next) (judge_all key refuses (read_more key runs next) later)

-- the output and status of judged runs: what each closed run gives; the last one is closed only where nothing is refused and the stream has no fault
abbrev pub runs_outcome : {E : Type 0} → List ℕ → (List (Placed E) → List ℕ) → Option StreamStop → RunsRead E → Option Refusal → Outcome
runs_outcome opening closes fault runs (Some refusal) = gives (Refused refusal) (opening ++ flat_map closes runs.closed)
runs_outcome opening closes (Some stop) runs None = gives (Refused (Stream stop)) (opening ++ flat_map closes runs.closed)
runs_outcome opening closes None runs None = gives Done (opening ++ flat_map closes (with_run runs.closed runs.last))

-- the outcome of a stream with this header, run by run
abbrev pub outcome_by_run : {H E P : Type 0} → (E → RunKey) → RunCalculation H E P Refusal → H → List ℕ → Result P Refusal → List (Placed E) → Option StreamStop → Outcome
outcome_by_run key runs head opening (Err refusal) entries fault = gives (Refused refusal) opening
outcome_by_run key runs head opening (Ok kept) entries fault =
    let read = judge_all key (runs.refuses head kept) no_runs entries in
    runs_outcome opening (given runs head kept) fault read.runs read.refusal
