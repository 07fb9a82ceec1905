-- Events of which none is refused, and the one that is.
use Rattle.std.proofs.Common.{◌≡◌, ℕ, List, [], ◌∷◌, ◌++◌, map, Option, Some, None, refl, sym, ap, ◌∙◌}
use Rattle.std.specs.List.{AllByRecursion}
use Rattle.std.specs.Option.{option_or}
use Rattle.kt_cell.specs.Losses.{Added}
use Rattle.kt_ends.specs.declared.status.Refusal.{Refusal}
use Rattle.kt_event.specs.Losses.{event_block_of}
use Rattle.kt_block.specs.declared.block.EventBlock.{EventBlock}
use Rattle.kt_periods.specs.Adding.{first_refusal}
use Rattle.kt_rec.specs.FootRows.{first_refused_row}
use Rattle.kt_rec.specs.declared.hazard.FootRow.{FootRow}
use Rattle.kt_chain.specs.Events.{RunInput, all_added, block_of, event_added, foot_of}
use Rattle.kt_chain.specs.Outcome.{event_refusal, row_refusal}
use Rattle.kt_chain.specs.Reached.{Passes, StopsAt, both_pass, none_passes, one_passes, one_stops, stops_behind}
use Rattle.kt_chain.specs.Rounds.{HasRows, given_block}
use Rattle.kt_load.specs.EventRows.{EventRows, ids_of}
use Rattle.kt_chain.proofs.AddedLemmas.{added_of_both, added_of_one}
use Rattle.kt_fold.specs.AddedLaws.{none_of_first}

module _ (run : RunInput) where
  -- the footprint rows of an event are not refused
  abbrev pub IsClear : ℕ → Type 0
  IsClear event = row_refusal event (first_refused_row (foot_of run event)) ≡ None

  -- an event with clear rows and no refused record is not refused
  not_refused : (before : List ℕ) (event : ℕ) → IsClear event → first_refusal (all_added run before) (event_added run event) ≡ None → event_refusal run before event ≡ None
  not_refused before event clear none = ap (λ (why : Option Refusal). option_or why (first_refusal (all_added run before) (event_added run event))) clear ∙ none

  -- events with clear rows pass where none of their records is refused
  pub events_pass : (done events : List ℕ) → AllByRecursion IsClear events → first_refusal (all_added run done) (all_added run events) ≡ None → Passes (event_refusal run) done events
  events_pass done [] clear none = none_passes (event_refusal run) done
  events_pass done (event ∷ events) clear none =
      let parts = none_of_first (all_added run done) (event_added run event) (all_added run events) none in
      let history : all_added run (done ++ event ∷ []) ≡ all_added run done ++ event_added run event = added_of_both run done (event ∷ []) ∙ ap (λ (xs : List Added). all_added run done ++ xs) (added_of_one run event) in
      both_pass (event_refusal run) done (event ∷ []) events (one_passes (event_refusal run) done event (not_refused done event clear.0 parts.0))
      (events_pass (done ++ event ∷ []) events clear.1 (ap (λ (before : List Added). first_refusal before (all_added run events)) history ∙ parts.1))

  -- behind events that pass, one is refused by its rows
  pub stops_by_rows : (done front : List ℕ) (event : ℕ) (later : List ℕ) (why : Refusal) → Passes (event_refusal run) done front → row_refusal event (first_refused_row (foot_of run event)) ≡ Some why → StopsAt (event_refusal run) done (front ++ event ∷ later) (done ++ front) why
  stops_by_rows done front event later why passes is =
      stops_behind (event_refusal run) done front (event ∷ later) (done ++ front) why passes
      (one_stops (event_refusal run) (done ++ front) event later why (ap (λ (answer : Option Refusal). option_or answer (first_refusal (all_added run (done ++ front)) (event_added run event))) is))

  -- behind events that pass, one is refused by its records
  pub stops_by_records : (done front : List ℕ) (event : ℕ) (later : List ℕ) (why : Refusal) → Passes (event_refusal run) done front → IsClear event → first_refusal (all_added run (done ++ front)) (event_added run event) ≡ Some why → StopsAt (event_refusal run) done (front ++ event ∷ later) (done ++ front) why
  stops_by_records done front event later why passes clear is =
      stops_behind (event_refusal run) done front (event ∷ later) (done ++ front) why passes
      (one_stops (event_refusal run) (done ++ front) event later why (ap (λ (answer : Option Refusal). option_or answer (first_refusal (all_added run (done ++ front)) (event_added run event))) clear ∙ is))

  -- ---- events with their rows

  -- the rows that were given are those of the footprint
  abbrev pub IsClearGiven : EventRows → Type 0
  IsClearGiven given = row_refusal given.event (first_refused_row given.rows) ≡ None

  pub clear_event : (given : EventRows) → HasRows run given → IsClearGiven given → IsClear given.event
  clear_event given has clear = ap (λ (foot : List FootRow). row_refusal given.event (first_refused_row foot)) (sym has) ∙ clear

  pub clear_events : (given : List EventRows) → AllByRecursion (HasRows run) given → AllByRecursion IsClearGiven given → AllByRecursion IsClear (ids_of given)
  clear_events [] has clear = tt
  clear_events (one ∷ more) has clear = (clear_event one has.0 clear.0, clear_events more has.1 clear.1)

  -- the block by given rows is that of the event
  pub block_by_rows : (given : EventRows) → HasRows run given → given_block run.terms run.rows given ≡ block_of run given.event
  block_by_rows given has = ap (λ (foot : List FootRow). event_block_of run.terms run.rows given.event foot) has

  pub blocks_by_rows : (given : List EventRows) → AllByRecursion (HasRows run) given → map (given_block run.terms run.rows) given ≡ map (block_of run) (ids_of given)
  blocks_by_rows [] has = refl
  blocks_by_rows (one ∷ more) has =
      ap (λ (block : EventBlock). block ∷ map (given_block run.terms run.rows) more) (block_by_rows one has.0)
      ∙ ap (λ (blocks : List EventBlock). block_of run one.event ∷ blocks) (blocks_by_rows more has.1)
