-- Spans of the footprint's file: places of events that follow one another, and the rows that are read of them.
-- The rules: docs/TABLES.md, "Footprint rows of a round".
use Rattle.std.specs.Prelude.{◌≡◌, ◌+◌, ◌≤◌, ◌==◌, ℕ, ◌/◌, ◌%◌, if◌then◌else◌, List, [], ◌∷◌, ◌++◌, length, drop, take, Option, Some, None}
use Rattle.std.specs.List.{flat_map, sum_by}
use Rattle.kt_out.specs.NamedFiles.{FileMap}
use Rattle.kt_rec.specs.Rows.{Rows}
use Rattle.kt_rec.specs.declared.hazard.FootRow.{FootRow}
use Rattle.kt_tables.specs.Lookups.{place_in}
use Rattle.kt_tables.specs.declared.place.Place.{Place}
use Rattle.kt_load.specs.EventRows.{EventRows, OnFootprint, event_rows, foot_rows_in}
use Rattle.kt_load.specs.declared.held_rows.HeldRows.{HeldRows}

-- ---- spans

-- a span lies in a file of so many bytes, as whole rows
pub record IsSpan (size : ℕ) (span : Place) : Type 0 where
  pub whole : span.size % 12 ≡ 0
  pub within : span.at + span.size ≤ size

-- a span and a place as one span: where one of them is empty, or the place follows the span without a gap
abbrev pub joined_span : Place → Place → Option Place
joined_span span place =
    if span.size == 0 then Some place
    else if place.size == 0 then Some span
    else if span.at + span.size == place.at then Some (record { at = span.at; size = span.size + place.size })
    else None

-- the rows of a span: those at its place of the file
abbrev pub span_rows : List ℕ → Place → List FootRow
span_rows bytes span = foot_rows_in (span.size / 12) (drop span.at bytes)

-- how many rows lie at a place; none where there is no place
abbrev pub count_at : Option Place → ℕ
count_at None = 0
count_at (Some place) = place.size / 12

-- how many rows some events have
abbrev pub count_of_all : Rows → List ℕ → ℕ
count_of_all rows events = sum_by (λ event. count_at (place_in rows event)) events

-- ---- what reading them does

-- the rows of a span were read and stand behind others
pub record AddsSpan (held : Option FileMap) (span : Place) (old new : List FootRow) : Type 0 where
  pub counted : length new ≡ length old + span.size / 12
  pub known : OnFootprint held (λ bytes. new ≡ old ++ span_rows bytes span)

-- an event comes behind others: its rows lie in what was read, with the span that is still to be read
pub record TakesEvent (held : Option FileMap) (rows : Rows) (event : ℕ) (old : List FootRow) (old_span : Place) (new : List FootRow) (new_span : Place) : Type 0 where
  pub counted : length new + new_span.size / 12 ≡ length old + old_span.size / 12 + count_at (place_in rows event)
  pub known : OnFootprint held (λ bytes. new ++ span_rows bytes new_span ≡ (old ++ span_rows bytes old_span) ++ event_rows rows bytes event)

-- the rows of some events lie in what was read, with the span that is still to be read
pub record AreTaken (held : Option FileMap) (rows : Rows) (events : List ℕ) (read : List FootRow) (span : Place) : Type 0 where
  pub counted : length read + span.size / 12 ≡ count_of_all rows events
  pub known : OnFootprint held (λ bytes. read ++ span_rows bytes span ≡ flat_map (event_rows rows bytes) events)

-- the rows of some events were read, one event after the other
pub record AreRead (held : Option FileMap) (rows : Rows) (events : List ℕ) (read : List FootRow) : Type 0 where
  pub counted : length read ≡ count_of_all rows events
  pub known : OnFootprint held (λ bytes. read ≡ flat_map (event_rows rows bytes) events)

-- ---- which rows are whose

-- the rows of an event lie in a list of so many
abbrev pub LiesAmong : ℕ → HeldRows → Type 0
LiesAmong count one = one.at + one.count ≤ count

-- an event with its rows out of the rows of all
abbrev pub rows_held : List FootRow → HeldRows → EventRows
rows_held all one = record { event = one.event; rows = take one.count (drop one.at all) }

-- where the rows of events stand in the rows of all, the first at a place
unfoldable pub held_from : ℕ → Rows → List ℕ → List HeldRows
held_from at rows [] = []
held_from at rows (event ∷ events) = record { event = event; at = at; count = count_at (place_in rows event) } ∷ held_from (at + count_at (place_in rows event)) rows events
