-- What holds of a run that ends with all its tables: none of its events is refused.
-- The rules: docs/REFUSALS.md, "Order".
use Rattle.std.specs.Prelude.{◌≡◌, ◌+◌, ℕ, List, [], ◌∷◌, ◌++◌, length, refl, Option, Some, None, option_map}
use Rattle.std.specs.List.{AllByRecursion}
use Rattle.std.specs.Option.{option_or}
use Rattle.std.proofs.Common.{sym, ap, ◌∙◌, append-nil, append_assoc}
use Rattle.std.proofs.lemmas.Grind.{flat_map-append}
use Rattle.kt_cell.specs.Losses.{Added}
use Rattle.kt_ends.specs.declared.status.Refusal.{Refusal}
use Rattle.kt_ends.specs.declared.status.Status.TheVariants.{Done}
use Rattle.kt_periods.specs.Adding.{first_refusal, record_refusal}
use Rattle.kt_rec.specs.FootRows.{first_refused_row, refused_after, row_cause}
use Rattle.kt_rec.specs.declared.foot_rows.ModelStop.{ModelStop}
use Rattle.kt_rec.specs.declared.foot_rows.ModelStop.TheVariants as stop
use Rattle.kt_rec.specs.declared.foot_rows.RowCause.{RowCause}
use Rattle.kt_rec.specs.declared.hazard.FootRow.{FootRow}
use Rattle.kt_tables.specs.Lookups.{event_ids}
use Rattle.kt_chain.specs.Events.{RunInput, all_added, event_added, foot_of}
use Rattle.kt_chain.specs.Outcome.{chain_outcome, event_refusal, reached_outcome, row_refusal, run_reaches}
use Rattle.kt_chain.specs.Reached.{reached_from, unless_refused}
use Rattle.kt_rec.specs.Options.{both_none}

-- a run refuses nothing: all its events are done, no footprint row of one is refused, and none of the records that they add
pub record RefusesNothing (run : RunInput) : Type 0 where
  pub none : (run_reaches run).refusal ≡ None
  pub all : (run_reaches run).done ≡ event_ids run.rows
  pub rows : AllByRecursion (λ event. first_refused_row (foot_of run event) ≡ None) (event_ids run.rows)
  pub records : first_refusal [] (all_added run (event_ids run.rows)) ≡ None

-- ---- one event

-- no row is refused for want of memory
never_memory : (earlier rows : List FootRow) → refused_after earlier rows ≡ Some stop.OutOfMemory → ⊥
never_memory earlier [] is = cc
never_memory earlier (row ∷ rows) is = by (row_cause earlier row) is (never_memory (earlier ++ row ∷ []) rows)
  where
    by : (cause : Option RowCause) → option_or (option_map (λ why. stop.Row (length earlier + 1) why) cause) (refused_after (earlier ++ row ∷ []) rows) ≡ Some stop.OutOfMemory → (refused_after (earlier ++ row ∷ []) rows ≡ Some stop.OutOfMemory → ⊥) → ⊥
    by None h later = later h
    by (Some why) h later = cc

-- an event that no row refuses has no refused row
no_row : (event : ℕ) (found : Option ModelStop) → (found ≡ Some stop.OutOfMemory → ⊥) → row_refusal event found ≡ None → found ≡ None
no_row event None never none = refl
no_row event (Some (stop.Row row cause)) never none = cc
no_row event (Some stop.OutOfMemory) never none = absurd (never refl)

-- ---- all events

-- the first of two lists of records that is refused
first_joined : (before first second : List Added) → first_refusal before first ≡ None → first_refusal (before ++ first) second ≡ None → first_refusal before (first ++ second) ≡ None
first_joined before [] second one other = ap (λ (history : List Added). first_refusal history second) (sym (append-nil before)) ∙ other
first_joined before (added ∷ first) second one other =
    let parts = both_none (record_refusal before added) (first_refusal (before ++ added ∷ []) first) one in
    ap (λ (why : Option Refusal). option_or why (first_refusal (before ++ added ∷ []) (first ++ second))) parts.0
    ∙ first_joined (before ++ added ∷ []) first second parts.1 (ap (λ (history : List Added). first_refusal history second) (append_assoc before (added ∷ []) first) ∙ other)

module _ (run : RunInput) where
  -- none of these events is refused, behind those that are done
  record ArePassed (done events : List ℕ) : Type 0 where
    reached : (reached_from (event_refusal run) done events).done ≡ done ++ events
    rows : AllByRecursion (λ event. first_refused_row (foot_of run event) ≡ None) events
    records : first_refusal (all_added run done) (all_added run events) ≡ None

  -- where none of them stops the run
  are_passed : (done events : List ℕ) → (reached_from (event_refusal run) done events).refusal ≡ None → ArePassed done events
  are_passed done [] none = record { reached = sym (append-nil done); rows = tt; records = refl }
  are_passed done (event ∷ later) none = by (event_refusal run done event) refl none (λ rest. are_passed (done ++ event ∷ []) later rest)
    where
      passed : event_refusal run done event ≡ None → ArePassed (done ++ event ∷ []) later → ArePassed done (event ∷ later)
      passed is rest =
          let parts = both_none (row_refusal event (first_refused_row (foot_of run event))) (first_refusal (all_added run done) (event_added run event)) is in
          let more : all_added run (done ++ event ∷ []) ≡ all_added run done ++ event_added run event = flat_map-append (event_added run) done (event ∷ []) ∙ ap (λ (last : List Added). all_added run done ++ last) (append-nil (event_added run event)) in
          record {
            reached = ap (λ (why : Option Refusal). (unless_refused done why (reached_from (event_refusal run) (done ++ event ∷ []) later)).done) is ∙ (rest.reached ∙ append_assoc done (event ∷ []) later);
            rows = (no_row event (first_refused_row (foot_of run event)) (never_memory [] (foot_of run event)) parts.0, rest.rows);
            records = first_joined (all_added run done) (event_added run event) (all_added run later) parts.1 (ap (λ (history : List Added). first_refusal history (all_added run later)) (sym more) ∙ rest.records);
          }

      by : (why : Option Refusal) → event_refusal run done event ≡ why → (unless_refused done why (reached_from (event_refusal run) (done ++ event ∷ []) later)).refusal ≡ None → ((reached_from (event_refusal run) (done ++ event ∷ []) later).refusal ≡ None → ArePassed (done ++ event ∷ []) later) → ArePassed done (event ∷ later)
      by None is h rest = passed is (rest h)
      by (Some why) is h rest = cc

  -- a run that is done was stopped by no event
  not_stopped : (chain_outcome run).status ≡ Done → (run_reaches run).refusal ≡ None
  not_stopped is = by (run_reaches run).refusal is
    where
      by : (why : Option Refusal) → (reached_outcome run (run_reaches run).done why).status ≡ Done → why ≡ None
      by None h = refl
      by (Some why) h = cc

  -- so it refuses nothing
  pub refuses_nothing : (chain_outcome run).status ≡ Done → RefusesNothing run
  refuses_nothing is =
      let none : (run_reaches run).refusal ≡ None = not_stopped is in
      let passed : ArePassed [] (event_ids run.rows) = are_passed [] (event_ids run.rows) none in
      record { none = none; all = passed.reached; rows = passed.rows; records = passed.records }
