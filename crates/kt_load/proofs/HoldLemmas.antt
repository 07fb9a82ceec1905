-- Which rows of a round are those of which event.
use Rattle.std.proofs.Common.{◌≡◌, ℕ, ◌+◌, ◌<◌, ◌≤◌, List, [], ◌∷◌, ◌++◌, All, length, map, take, drop, Option, Some, None, refl, sym, ap, subst, ◌∙◌, append_assoc, arith}
use Rattle.std.specs.Prelude.{slice_index_or}
use Rattle.std.specs.List.{flat_map}
use Rattle.std.proofs.lemmas.List.{drop_at, get_or-map, length-append, take_at}
use Rattle.std.proofs.lemmas.List.Elements.{All-cons, All-nil}
use Rattle.std.proofs.lemmas.List.Sums.{sum_by-cons}
use Rattle.kt_out.specs.NamedFiles.{FileMap}
use Rattle.kt_rec.specs.Rows.{Rows}
use Rattle.kt_rec.specs.declared.hazard.FootRow.{FootRow}
use Rattle.kt_tables.specs.Lookups.{place_in}
use Rattle.kt_tables.specs.declared.place.Place.{Place}
use Rattle.kt_load.proofs.EventRowLemmas.{length_rows}
use Rattle.kt_load.proofs.SpanLemmas.{on_one}
use Rattle.kt_load.specs.EventRows.{EventRows, OnFootprint, event_rows, event_with_rows, ids_of, rows_at}
use Rattle.kt_load.specs.Spans.{AreRead, LiesAmong, count_at, count_of_all, held_from, rows_held}
use Rattle.kt_load.specs.declared.held_rows.HeldRows.{HeldRows}

module _ (rows : Rows) where
  -- the rows of events lie among the rows of all
  pub lie_among : (count at : ℕ) (events : List ℕ) → at + count_of_all rows events ≤ count → All (LiesAmong count) (held_from at rows events)
  unfolding held_from
  lie_among count at [] fits = All-nil (LiesAmong count)
  lie_among count at (event ∷ events) fits =
      let here = count_at (place_in rows event) in
      let all = sum_by-cons (λ e. count_at (place_in rows e)) event events in
      All-cons (LiesAmong count) (record { event = event; at = at; count = here }) (held_from (at + here) rows events) (omega (arith, fits, all)) (lie_among count (at + here) events (omega (arith, fits, all)))

  -- the ids of events are theirs
  pub ids_held : (all : List FootRow) (at : ℕ) (events : List ℕ) → ids_of (map (rows_held all) (held_from at rows events)) ≡ events
  unfolding held_from
  ids_held all at [] = refl
  ids_held all at (event ∷ events) = ap (λ ids. event ∷ ids) (ids_held all (at + count_at (place_in rows event)) events)

  -- one more event
  pub holds_more : (at event count : ℕ) (events : List ℕ) (held new all : List HeldRows) → count ≡ count_at (place_in rows event) → new ≡ held ++ record { event = event; at = at; count = count } ∷ [] → all ≡ held ++ held_from at rows (event ∷ events) → all ≡ new ++ held_from (at + count) rows events
  unfolding held_from
  holds_more at event count events held new all counted here is =
      let some = count_at (place_in rows event) in
      let base : all ≡ (held ++ record { event = event; at = at; count = some } ∷ []) ++ held_from (at + some) rows events =
      is ∙ sym (append_assoc held (record { event = event; at = at; count = some } ∷ []) (held_from (at + some) rows events)) in
      subst (λ (list : List HeldRows). all ≡ list ++ held_from (at + count) rows events) (sym here)
      (subst (λ (n : ℕ). all ≡ (held ++ record { event = event; at = at; count = n } ∷ []) ++ held_from (at + n) rows events) (sym counted) base)

  -- no event is left
  pub holds_none : (at : ℕ) → held_from at rows [] ≡ []
  unfolding held_from
  holds_none at = refl

  -- an event has as many rows as its place
  count_known : (bytes : List ℕ) (place : Option Place) → length (rows_at bytes place) ≡ count_at place
  count_known bytes None = refl
  count_known bytes (Some place) = length_rows (count_at (Some place)) (drop place.at bytes)

  -- the rows of events out of the rows of all are theirs
  pub rows_are : (bytes : List ℕ) (all before : List FootRow) (at : ℕ) (events : List ℕ) → at ≡ length before → all ≡ before ++ flat_map (event_rows rows bytes) events → map (rows_held all) (held_from at rows events) ≡ map (event_with_rows rows bytes) events
  unfolding held_from
  rows_are bytes all before at [] place are = refl
  rows_are bytes all before at (event ∷ events) place are =
      let here = event_rows rows bytes event in
      let later = flat_map (event_rows rows bytes) events in
      let count = count_at (place_in rows event) in
      let whole : length here ≡ count = count_known bytes (place_in rows event) in
      let rest : drop at all ≡ here ++ later = ap (drop at) are ∙ drop_at before (here ++ later) at (sym place) in
      let one : take count (drop at all) ≡ here = ap (take count) rest ∙ take_at here later count whole in
      let next : at + count ≡ length (before ++ here) = omega (arith, place, whole, length-append before here) in
      ap (λ own. record { event = event; rows = own } ∷ map (rows_held all) (held_from (at + count) rows events)) one
      ∙ ap (λ others. record { event = event; rows = here } ∷ others) (rows_are bytes all (before ++ here) (at + count) events next (are ∙ sym (append_assoc before here later)))

  -- what was read are the rows of the events
  pub rows_known : (held : Option FileMap) (events : List ℕ) (read : List FootRow) → AreRead held rows events read → OnFootprint held (λ bytes. map (rows_held read) (held_from 0 rows events) ≡ map (event_with_rows rows bytes) events)
  rows_known held events read are = on_one held (λ bytes. read ≡ flat_map (event_rows rows bytes) events) (λ bytes. map (rows_held read) (held_from 0 rows events) ≡ map (event_with_rows rows bytes) events)
      (λ bytes is. rows_are bytes read [] 0 events refl is) are.known

-- the event at a place
pub event_at : (all : List FootRow) (held : List HeldRows) (n : ℕ) (one : EventRows) (own : HeldRows) → n < length held → own ≡ slice_index_or held n own → rows_held all own ≡ slice_index_or (map (rows_held all) held) n one
event_at all held n one own below is = ap (rows_held all) is ∙ sym (get_or-map (rows_held all) held n own one below)
