-- Spans: the bytes that they have in the file, the rows that are read of them, and an event that comes behind others.
use Rattle.std.proofs.Common.{◌≡◌, ℕ, ◌+◌, ◌/◌, ◌==◌, ◌≤◌, Bool, List, [], ◌∷◌, ◌++◌, length, take, drop, Option, Some, None, true, false, refl, sym, ap, ◌∙◌, append-nil, append_assoc, arith}
use Rattle.std.specs.Prelude.{IfSome, IsSomeAnd, if◌then◌else◌}
use Rattle.std.specs.List.{flat_map}
use Rattle.std.proofs.lemmas.Bool.{eqb-true}
use Rattle.std.proofs.lemmas.List.{drop-drop, flat_map_more, length-append}
use Rattle.std.proofs.lemmas.List.Sums.{sum_by_push}
use Rattle.std.proofs.Math.Nat.{mul-div-le}
use Rattle.kt_out.specs.NamedFiles.{FileMap}
use Rattle.kt_rec.specs.Rows.{Rows}
use Rattle.kt_rec.specs.declared.hazard.FootRow.{FootRow}
use Rattle.kt_tables.specs.Lookups.{place_in}
use Rattle.kt_tables.specs.declared.place.Place.{Place}
use Rattle.kt_load.proofs.EventRowLemmas.{length_rows, no_row, rows_joined, rows_of_front}
use Rattle.kt_load.specs.Ends.{HasPart, IsPart}
use Rattle.kt_load.specs.EventRows.{HasFootprint, LiesWithin, OnFootprint, event_rows, foot_rows_in, footprint_name, rows_at}
use Rattle.kt_load.specs.Spans.{AddsSpan, AreRead, AreTaken, IsSpan, TakesEvent, count_at, joined_span, span_rows}

-- ---- what holds of a file's bytes

-- what holds of all bytes
on_all : (held : Option FileMap) (holds : List ℕ → Type 0) → ((bytes : List ℕ) → holds bytes) → OnFootprint held holds
on_all None holds all = tt
on_all (Some files) holds all = of_file (files footprint_name)
  where
    of_file : (file : Option (List ℕ)) → IfSome file holds
    of_file None = tt
    of_file (Some bytes) = all bytes

-- what follows for all bytes
pub on_one : (held : Option FileMap) (first last : List ℕ → Type 0) → ((bytes : List ℕ) → first bytes → last bytes) → OnFootprint held first → OnFootprint held last
on_one None first last step is = tt
on_one (Some files) first last step is = of_file (files footprint_name) is
  where
    of_file : (file : Option (List ℕ)) → IfSome file first → IfSome file last
    of_file None here = tt
    of_file (Some bytes) here = step bytes here

-- what follows of two facts for all bytes
on_both : (held : Option FileMap) (first second last : List ℕ → Type 0) → ((bytes : List ℕ) → first bytes → second bytes → last bytes) → OnFootprint held first → OnFootprint held second → OnFootprint held last
on_both None first second last step is other = tt
on_both (Some files) first second last step is other = of_file (files footprint_name) is other
  where
    of_file : (file : Option (List ℕ)) → IfSome file first → IfSome file second → IfSome file last
    of_file None here there = tt
    of_file (Some bytes) here there = step bytes here there

-- ---- reading a span

-- the file has the bytes of a span
pub has_part : (held : Option FileMap) (size : ℕ) (span : Place) → HasFootprint held size → IsSpan size span → HasPart held footprint_name span.at span.size
has_part None size span has is = tt
has_part (Some files) size span has is = of_file (files footprint_name) has
  where
    of_file : (file : Option (List ℕ)) → IsSomeAnd file (λ bytes. length bytes ≡ size) → IsSomeAnd file (λ bytes. span.at + span.size ≤ length bytes)
    of_file None here = here
    of_file (Some bytes) here = omega (arith, here, is.within)

-- the rows of the bytes that were read are those of the span
pub adds_span : (held : Option FileMap) (span : Place) (part : List ℕ) (old new : List FootRow) → IsPart held footprint_name span.at span.size part → new ≡ old ++ foot_rows_in (length part / 12) part → AddsSpan held span old new
adds_span held span part old new read are =
    let rows : length (foot_rows_in (length part / 12) part) ≡ span.size / 12 = length_rows (length part / 12) part ∙ ap (λ n. n / 12) read.whole in
    record {
      counted = ap length are ∙ length-append old (foot_rows_in (length part / 12) part) ∙ ap (λ n. length old + n) rows;
      known = on_one held (λ bytes. part ≡ take span.size (drop span.at bytes)) (λ bytes. new ≡ old ++ span_rows bytes span)
          (λ bytes is. are ∙ ap (λ n. old ++ foot_rows_in (n / 12) part) read.whole ∙ ap (λ p. old ++ foot_rows_in (span.size / 12) p) is
          ∙ ap (λ rows. old ++ rows) (rows_of_front span.size (span.size / 12) (drop span.at bytes) (mul-div-le span.size 12)))
          read.known;
    }

-- the rows of an empty span
empty_rows : (bytes : List ℕ) (span : Place) → span.size ≡ 0 → span_rows bytes span ≡ []
empty_rows bytes span is = ap (λ n. foot_rows_in (n / 12) (drop span.at bytes)) is ∙ no_row (drop span.at bytes)

-- an empty span adds no row
pub adds_none : (held : Option FileMap) (span : Place) (rows : List FootRow) → span.size ≡ 0 → AddsSpan held span rows rows
adds_none held span rows is =
    let none : span.size / 12 ≡ 0 = ap (λ n. n / 12) is in
    record {
      counted = omega (arith, none);
      known = on_all held (λ bytes. rows ≡ rows ++ span_rows bytes span) (λ bytes. sym (append-nil rows) ∙ ap (λ more. rows ++ more) (sym (empty_rows bytes span is)));
    }

-- the rows of an event's place that were read into an empty list are the event's
pub reads_event : (held : Option FileMap) (rows : Rows) (event : ℕ) (place : Place) (old new : List FootRow) → old ≡ [] → Some place ≡ place_in rows event → AddsSpan held place old new → OnFootprint held (λ bytes. new ≡ event_rows rows bytes event)
reads_event held rows event place old new none is adds = on_one held (λ bytes. new ≡ old ++ span_rows bytes place) (λ bytes. new ≡ event_rows rows bytes event)
    (λ bytes added. added ∙ ap (λ r. r ++ span_rows bytes place) none ∙ ap (rows_at bytes) is) adds.known

-- ---- spans as one

-- a span has the rows of another and of a place, in a file of so many bytes
pub record Joins (size : ℕ) (span place next : Place) : Type 0 where
  pub is_span : IsSpan size next
  pub few : next.size ≤ span.size + place.size
  pub counted : next.size / 12 ≡ span.size / 12 + place.size / 12
  pub rows : (bytes : List ℕ) → span_rows bytes next ≡ span_rows bytes span ++ span_rows bytes place

-- a place as a span
pub span_of_place : (size : ℕ) (place : Place) → LiesWithin size place → IsSpan size place
span_of_place size place lies = record { whole = lies.whole; within = lies.within }

-- a span joined with a place has the rows of both
pub joins : (size : ℕ) (span place : Place) → IsSpan size span → LiesWithin size place → IfSome (joined_span span place) (Joins size span place)
joins size span place is lies = by_span (span.size == 0) refl
  where
    first : span.size ≡ 0 → Joins size span place place
    first none =
        let no_rows : span.size / 12 ≡ 0 = ap (λ n. n / 12) none in
        record {
          is_span = span_of_place size place lies;
          few = omega (arith, none);
          counted = omega (arith, no_rows);
          rows = λ bytes. ap (λ rows. rows ++ span_rows bytes place) (sym (empty_rows bytes span none));
        }

    second : place.size ≡ 0 → Joins size span place span
    second none =
        let no_rows : place.size / 12 ≡ 0 = ap (λ n. n / 12) none in
        record {
          is_span = is;
          few = omega (arith, none);
          counted = omega (arith, no_rows);
          rows = λ bytes. sym (append-nil (span_rows bytes span)) ∙ ap (λ rows. span_rows bytes span ++ rows) (sym (empty_rows bytes place none));
        }

    both : span.at + span.size ≡ place.at → Joins size span place (record { at = span.at; size = span.size + place.size })
    both follows = record {
      is_span = record { whole = omega (arith, is.whole, lies.whole); within = omega (arith, follows, lies.within) };
      few = omega arith;
      counted = omega (arith, is.whole, lies.whole);
      rows = λ bytes. rows_joined span.size place.size (drop span.at bytes) is.whole
          ∙ ap (λ rest. foot_rows_in (span.size / 12) (drop span.at bytes) ++ foot_rows_in (place.size / 12) rest) (drop-drop span.size span.at bytes ∙ ap (λ n. drop n bytes) follows);
    }

    by_place : (b : Bool) → (span.at + span.size == place.at) ≡ b → IfSome (if b then Some (record { at = span.at; size = span.size + place.size }) else None) (Joins size span place)
    by_place true e = both (eqb-true (span.at + span.size) place.at e)
    by_place false e = tt

    by_empty : (b : Bool) → (place.size == 0) ≡ b → IfSome (if b then Some span else (if span.at + span.size == place.at then Some (record { at = span.at; size = span.size + place.size }) else None)) (Joins size span place)
    by_empty true e = second (eqb-true place.size 0 e)
    by_empty false e = by_place (span.at + span.size == place.at) refl

    by_span : (b : Bool) → (span.size == 0) ≡ b → IfSome (if b then Some place else (if place.size == 0 then Some span else (if span.at + span.size == place.at then Some (record { at = span.at; size = span.size + place.size }) else None))) (Joins size span place)
    by_span true e = first (eqb-true span.size 0 e)
    by_span false e = by_empty (place.size == 0) refl

-- ---- an event behind others

module _ (held : Option FileMap) (rows : Rows) (event : ℕ) (old : List FootRow) (span : Place) where
  -- an event that the index does not have
  pub takes_none : None ≡ place_in rows event → TakesEvent held rows event old span old span
  takes_none is =
      let none : count_at (place_in rows event) ≡ 0 = ap count_at (sym is) in
      record {
        counted = omega (arith, none);
        known = on_all held (λ bytes. old ++ span_rows bytes span ≡ (old ++ span_rows bytes span) ++ event_rows rows bytes event)
            (λ bytes. sym (append-nil (old ++ span_rows bytes span)) ∙ ap (λ p. (old ++ span_rows bytes span) ++ rows_at bytes p) is);
      }

  -- an event whose place is joined with the span
  pub takes_joined : (size : ℕ) (place next : Place) → Some place ≡ place_in rows event → Joins size span place next → TakesEvent held rows event old span old next
  takes_joined size place next is join =
      let some : count_at (place_in rows event) ≡ place.size / 12 = ap count_at (sym is) in
      record {
        counted = omega (arith, some, join.counted);
        known = on_all held (λ bytes. old ++ span_rows bytes next ≡ (old ++ span_rows bytes span) ++ event_rows rows bytes event)
            (λ bytes. ap (λ r. old ++ r) (join.rows bytes) ∙ sym (append_assoc old (span_rows bytes span) (span_rows bytes place)) ∙ ap (λ p. (old ++ span_rows bytes span) ++ rows_at bytes p) is);
      }

  -- an event whose place is the next span
  pub takes_next : (place : Place) (new : List FootRow) → Some place ≡ place_in rows event → AddsSpan held span old new → TakesEvent held rows event old span new place
  takes_next place new is adds =
      let some : count_at (place_in rows event) ≡ place.size / 12 = ap count_at (sym is) in
      record {
        counted = omega (arith, some, adds.counted);
        known = on_one held (λ bytes. new ≡ old ++ span_rows bytes span) (λ bytes. new ++ span_rows bytes place ≡ (old ++ span_rows bytes span) ++ event_rows rows bytes event)
            (λ bytes added. ap (λ r. r ++ span_rows bytes place) added ∙ ap (λ p. (old ++ span_rows bytes span) ++ rows_at bytes p) is)
            adds.known;
      }

-- ---- all events

module _ (held : Option FileMap) (rows : Rows) where
  -- none yet
  pub takes_first : (read : List FootRow) (span : Place) → read ≡ [] → span.size ≡ 0 → AreTaken held rows [] read span
  takes_first read span is none =
      let no_rows : span.size / 12 ≡ 0 = ap (λ n. n / 12) none in
      record {
        counted = ap (λ n. length read + n) no_rows ∙ omega (arith, ap length is);
        known = on_all held (λ bytes. read ++ span_rows bytes span ≡ []) (λ bytes. ap (λ more. read ++ more) (empty_rows bytes span none) ∙ append-nil read ∙ is);
      }

  -- one more
  pub takes_more : (events : List ℕ) (event : ℕ) (old new : List FootRow) (span next : Place) → AreTaken held rows events old span → TakesEvent held rows event old span new next → AreTaken held rows (events ++ event ∷ []) new next
  takes_more events event old new span next so_far takes = record {
    counted = takes.counted ∙ ap (λ n. n + count_at (place_in rows event)) so_far.counted ∙ sym (sum_by_push (λ e. count_at (place_in rows e)) events event);
    known = on_both held (λ bytes. old ++ span_rows bytes span ≡ flat_map (event_rows rows bytes) events) (λ bytes. new ++ span_rows bytes next ≡ (old ++ span_rows bytes span) ++ event_rows rows bytes event) (λ bytes. new ++ span_rows bytes next ≡ flat_map (event_rows rows bytes) (events ++ event ∷ []))
        (λ bytes before here. here ∙ ap (λ r. r ++ event_rows rows bytes event) before ∙ flat_map_more (event_rows rows bytes) [] events event)
        so_far.known takes.known;
  }

  -- the last span was read
  pub takes_last : (events : List ℕ) (old new : List FootRow) (span : Place) → AreTaken held rows events old span → AddsSpan held span old new → AreRead held rows events new
  takes_last events old new span so_far adds = record {
    counted = adds.counted ∙ so_far.counted;
    known = on_both held (λ bytes. old ++ span_rows bytes span ≡ flat_map (event_rows rows bytes) events) (λ bytes. new ≡ old ++ span_rows bytes span) (λ bytes. new ≡ flat_map (event_rows rows bytes) events)
        (λ bytes before here. here ∙ before)
        so_far.known adds.known;
  }
