-- Steps of a stage that calculates run by run.
use Rattle.std.proofs.Common.{◌≡◌, ℕ, Bool, true, false, List, [], ◌++◌, Result, Ok, Err, sym, ap, subst, append-nil}
use Rattle.kt_out.specs.InputFiles.{InputsState}
use Rattle.kt_stream.specs.declared.entry.Placed.{Placed}
use Rattle.kt_ends.specs.declared.status.Refusal.{Refusal}
use Rattle.kt_ends.specs.declared.tool_stop.ToolStop.{ToolStop}
use Rattle.kt_ends.specs.declared.tool_stop.ToolStop.TheVariants as stop
use Rattle.kt_loop.specs.declared.run_key.RunKey.{RunKey}
use Rattle.kt_loop.specs.ByRun.{RunCalculation, OpenRun, opened_run, judged, closing, takes_run}
use Rattle.kt_loop.specs.Calculation.{Step}
use Rattle.kt_loop.specs.Counts.{Consults}
use Rattle.kt_loop.specs.RunSteps.{unwritten}
use Rattle.kt_loop.specs.Runs.{joins}
use Rattle.kt_loop.specs.Steps.{StepsBy}

-- calls behind others that counted nothing
pub consults_behind : (before between after : InputsState) (result : Result (Unit {0}) ToolStop) → between ≡ before → Consults between after result → Consults before after result
consults_behind before between after result same consults = subst (λ (state : InputsState). Consults state after result) same consults

module _ {H E P : Type 0} (key : E → RunKey) (runs : RunCalculation H E P Refusal) (head : H) where
  -- the step at the header
  pub opened_step : (stands : P → Type 0) (items run : List (Placed E)) (text text_now : List ℕ) (step : Step P Refusal) (result : Result (Unit {0}) ToolStop) → items ≡ run → StepsBy step stands text text_now result
      → StepsBy (record { text = step.text; next = opened_run run step.next }) (λ (next : OpenRun P E). stands next.kept × (items ≡ next.run)) text text_now result
  opened_step stands items run text text_now step (Ok done) same by = record { next = record { kept = by.next; run = run }; reached = ap (opened_run run) by.reached; state = (by.state, same); wrote = by.wrote }
  opened_step stands items run text text_now step (Err (stop.Refused why)) same by = record { reached = ap (opened_run run) by.reached; wrote = by.wrote }
  opened_step stands items run text text_now step (Err other) same by = tt

  module _ (kept : P) (placed : Placed E) (stands : OpenRun P E → Type 0) (result : Result (Unit {0}) ToolStop) where
    -- what a step that writes nothing does behind a text that was written
    behind_text : (text text_now closed : List ℕ) (next : Result (OpenRun P E) Refusal) (answer : Result (Unit {0}) ToolStop) → text_now ≡ text ++ closed → StepsBy (unwritten next) stands [] [] answer → StepsBy (record { text = closed; next = next }) stands text text_now answer
    behind_text text text_now closed next (Ok done) wrote by = record { next = by.next; reached = by.reached; state = by.state; wrote = wrote }
    behind_text text text_now closed next (Err (stop.Refused why)) wrote by = record { reached = by.reached; wrote = wrote }
    behind_text text text_now closed next (Err other) wrote by = tt

    abbrev TakesAt : List ℕ → List ℕ → List (Placed E) → Bool → Type 0
    TakesAt text text_now run joined = StepsBy (takes_run runs head (record { kept = kept; run = run }) placed joined) stands text text_now result

    -- the record goes on the open run
    pub joined_step : (items run : List (Placed E)) (text : List ℕ) → items ≡ run → joins key items placed ≡ true → StepsBy (unwritten (judged kept items placed (runs.refuses head kept items placed))) stands [] [] result → TakesAt text text run (joins key run placed)
    joined_step items run text same joined by =
        subst (λ (xs : List (Placed E)). TakesAt text text xs (joins key xs placed)) same
        (subst (λ (b : Bool). TakesAt text text items b) (sym joined) (behind_text text text [] _ result (sym (append-nil text)) by))

    -- it opens the next run
    pub opening_step : (items emptied run : List (Placed E)) (text text_now : List ℕ) → items ≡ run → joins key items placed ≡ false → emptied ≡ [] → text_now ≡ text ++ closing runs head kept items
        → StepsBy (unwritten (judged kept emptied placed (runs.refuses head kept emptied placed))) stands [] [] result → TakesAt text text_now run (joins key run placed)
    opening_step items emptied run text text_now same joined none wrote by =
        let first = subst (λ (xs : List (Placed E)). StepsBy (unwritten (judged kept xs placed (runs.refuses head kept xs placed))) stands [] [] result) none by in
        subst (λ (xs : List (Placed E)). TakesAt text text_now xs (joins key xs placed)) same
        (subst (λ (b : Bool). TakesAt text text_now items b) (sym joined) (behind_text text text_now (closing runs head kept items) _ result wrote first))
