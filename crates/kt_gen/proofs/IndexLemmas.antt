-- The index of the generated footprint.
use Rattle.std.proofs.Common.{◌≡◌, ◌≢◌, ℕ, zero, suc, ◌+◌, ◌-◌, ◌*◌, ◌≤◌, true, false, List, [], ◌∷◌, ◌++◌, length, refl, ap, ◌∙◌, arith}
use Rattle.std.specs.Prelude.{◌==◌, map}
use Rattle.std.specs.List.{AllByRecursion, flat_map, range_with_len}
use Rattle.std.proofs.lemmas.Bool.Decides.{nat_tests}
use Rattle.kt_schema.specs.Index.{event_of, index_from, index_of, index_row}
use Rattle.kt_gen.specs.Hazard.{event_index_row, footprint_rows, index_rows, strike_rows, struck_rows}

-- rows that are all of one event
abbrev pub AreOf : ℕ → List (List ℕ) → Type 0
AreOf event rows = AllByRecursion (λ row. event_of row ≡ event) rows

-- twenty rows of each event
pub record HasTwentyRows (rows : ℕ → List (List ℕ)) : Type 0 where
  pub are_of : (event : ℕ) → AreOf event (rows event)
  pub twenty : (event : ℕ) → length (rows event) ≡ 20

-- rows of one event lengthen its row of the index
pub index_from-same : (event offset size : ℕ) (rows more : List (List ℕ)) → AreOf event rows
    → index_from event offset size (rows ++ more) ≡ index_from event offset (size + 12 * length rows) more
unfolding index_from
index_from-same event offset size [] more same =
    let none : size ≡ size + 12 * 0 = omega arith in
    ap (λ all. index_from event offset all more) none
index_from-same event offset size (row ∷ rows) more same =
    let test : (event_of row == event) ≡ true = grind (arith, nat_tests, same.0) in
    let long : size + 12 + 12 * length rows ≡ size + 12 * length (row ∷ rows) = omega arith in
    rw test (index_from-same event offset (size + 12) rows more same.1 ∙ ap (λ all. index_from event offset all more) long)

-- the rows of the next event end it
pub index_from-next : (event next offset size : ℕ) (rows more : List (List ℕ)) → next ≢ event → AreOf next rows → length rows ≡ 20
    → index_from event offset size (rows ++ more) ≡ index_row event offset size ∷ index_from next (offset + size) 240 more
unfolding index_from
index_from-next event next offset size [] more other same twenty = absurd (omega (arith, twenty))
index_from-next event next offset size (row ∷ rows) more other same twenty =
    let test : (event_of row == event) ≡ false = grind (arith, nat_tests, same.0, other) in
    let long : 12 + 12 * length rows ≡ 240 = omega (arith, twenty) in
    rw (test, same.0) (ap (λ rest. index_row event offset size ∷ rest) (index_from-same next (offset + size) 12 rows more same.1 ∙ ap (λ all. index_from next (offset + size) all more) long))

-- the rows of the first event
pub index_of-first : (event : ℕ) (rows more : List (List ℕ)) → AreOf event rows → length rows ≡ 20 → index_of (rows ++ more) ≡ index_from event 16 240 more
unfolding index_of
index_of-first event [] more same twenty = absurd (omega (arith, twenty))
index_of-first event (row ∷ rows) more same twenty =
    let long : 12 + 12 * length rows ≡ 240 = omega (arith, twenty) in
    rw same.0 (index_from-same event 16 12 rows more same.1 ∙ ap (λ all. index_from event 16 all more) long)

-- the index of an event and those behind it
pub index_from-events : (rows : ℕ → List (List ℕ)) → HasTwentyRows rows → (event count : ℕ) → 1 ≤ event
    → index_from event (16 + (event - 1) * 240) 240 (flat_map rows (range_with_len (event + 1) count)) ≡ map event_index_row (range_with_len event (suc count))
unfolding index_from
index_from-events rows each event zero low = refl
index_from-events rows each event (suc count) low =
    let other : event + 1 ≢ event = λ same. omega arith in
    let place : 16 + (event - 1) * 240 + 240 ≡ 16 + (event + 1 - 1) * 240 = omega arith in
    index_from-next event (event + 1) (16 + (event - 1) * 240) 240 (rows (event + 1)) (flat_map rows (range_with_len (event + 1 + 1) count)) other (each.are_of (event + 1)) (each.twenty (event + 1))
    ∙ ap (λ index. event_index_row event ∷ index)
    (ap (λ offset. index_from (event + 1) offset 240 (flat_map rows (range_with_len (event + 1 + 1) count))) place ∙ index_from-events rows each (event + 1) count (omega arith))

-- the index of all events
pub index_of-events : (rows : ℕ → List (List ℕ)) → HasTwentyRows rows → (events : ℕ)
    → index_of (flat_map rows (range_with_len 1 events)) ≡ map event_index_row (range_with_len 1 events)
unfolding index_of
index_of-events rows each zero = refl
index_of-events rows each (suc events) =
    index_of-first 1 (rows 1) (flat_map rows (range_with_len 2 events)) (each.are_of 1) (each.twenty 1) ∙ index_from-events rows each 1 events (omega arith)

-- rows of one event, in two pieces and in groups
pub AreOf-append : (event : ℕ) (xs ys : List (List ℕ)) → AreOf event xs → AreOf event ys → AreOf event (xs ++ ys)
AreOf-append event [] ys first second = second
AreOf-append event (row ∷ xs) ys first second = (first.0, AreOf-append event xs ys first.1 second)

pub AreOf-flat_map : (event : ℕ) (groups : ℕ → List (List ℕ)) (numbers : List ℕ) → ((number : ℕ) → AreOf event (groups number)) → AreOf event (flat_map groups numbers)
AreOf-flat_map event groups [] each = tt
AreOf-flat_map event groups (number ∷ numbers) each = AreOf-append event (groups number) (flat_map groups numbers) (each number) (AreOf-flat_map event groups numbers each)

-- an event has ten strikes of two rows
pub struck-twenty : (seed before : ℕ) → HasTwentyRows (struck_rows seed before)
struck-twenty seed before = record {
  are_of = λ event. AreOf-flat_map event (strike_rows seed before event) (range_with_len 1 10) (λ strike. (refl, (refl, tt)));
  twenty = λ event. refl;
}

-- the index of the footprint is the row of each event
pub index_of-footprint : (seed before events : ℕ) → index_of (footprint_rows seed before events) ≡ index_rows events
unfolding footprint_rows index_rows
index_of-footprint seed before events = index_of-events (struck_rows seed before) (struck-twenty seed before) events
