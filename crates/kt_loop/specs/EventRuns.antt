-- Records event by event: what each event gives is one run, or none, and no record of it is refused.
-- The rules: docs/STREAMS.md, "Runs".
use Rattle.std.specs.Prelude.{◌≡◌, ℕ, true, List, [], ◌∷◌, ◌++◌, Option, None}
use Rattle.std.specs.List.{AllByRecursion}
use Rattle.kt_stream.specs.declared.entry.Placed.{Placed}
use Rattle.kt_ends.specs.Outcome.{Outcome}
use Rattle.kt_ends.specs.declared.status.Refusal.{Refusal}
use Rattle.kt_loop.specs.ByRun.{judge_all, runs_outcome}
use Rattle.kt_loop.specs.Runs.{bare, goes_on, no_runs}
use Rattle.kt_loop.specs.declared.run_key.RunKey.{RunKey}

-- each record goes on the one before it
abbrev pub Rises : {E : Type 0} → (E → RunKey) → List E → Type 0
Rises key [] = Unit {0}
Rises key (last ∷ []) = Unit {0}
Rises key (first ∷ (second ∷ later)) = (goes_on (key first) (key second) ≡ true) × Rises key (second ∷ later)

-- the records are all of an event, and each goes on the one before it: they are one run, or none
pub record IsEventRun {E : Type 0} (key : E → RunKey) (event : ℕ) (run : List E) : Type 0 where
  pub events : AllByRecursion (λ (entry : E). (key entry).event ≡ event) run
  pub rises : Rises key run

-- what the records of an event give: nothing where there are none
abbrev pub event_text : {E : Type 0} → (List E → List ℕ) → List E → List ℕ
event_text closes [] = []
event_text closes (first ∷ later) = closes (first ∷ later)

-- no record is refused behind those of its run
abbrev pub AcceptsRun : {E : Type 0} → (List (Placed E) → Placed E → Option Refusal) → List (Placed E) → List (Placed E) → Type 0
AcceptsRun refuses before [] = Unit {0}
AcceptsRun refuses before (next ∷ later) = (refuses before next ≡ None) × AcceptsRun refuses (before ++ next ∷ []) later

-- the records of an event are one run, or none, and no record of it is refused, wherever they stand
pub record IsTaken {E : Type 0} (key : E → RunKey) (refuses : List (Placed E) → Placed E → Option Refusal) (of : ℕ → List E) (event : ℕ) : Type 0 where
  pub run : IsEventRun key event (of event)
  pub accepted : (placed : List (Placed E)) → bare placed ≡ of event → AcceptsRun refuses [] placed

-- what comes of records without a fault behind them, run by run
abbrev pub whole_outcome : {E : Type 0} → (E → RunKey) → (List (Placed E) → Placed E → Option Refusal) → (List E → List ℕ) → List ℕ → List (Placed E) → Outcome
whole_outcome key refuses closes opening entries =
    let read = judge_all key refuses no_runs entries in
    runs_outcome opening (λ (run : List (Placed _)). closes (bare run)) None read.runs read.refusal
