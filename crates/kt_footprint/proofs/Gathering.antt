-- The rows of a footprint, event by event, from its records and its index.
use Rattle.std.proofs.Common.{◌≡◌, ℕ, ◌+◌, ◌*◌, ◌≤◌, Bool, true, false, List, [], ◌∷◌, ◌++◌, length, drop, refl, sym, ap, subst, ◌∙◌, arith, append_assoc}
use Rattle.std.specs.Prelude.{◌==◌, map}
use Rattle.std.specs.List.{AllByRecursion}
use Rattle.std.proofs.lemmas.Bool.Decides.{nat_tests}
use Rattle.std.proofs.lemmas.List.{drop-drop, length-append, length-map, map-append, take_at}
use Rattle.std.proofs.Math.Seq.{drop-append_seam}
use Rattle.kt_rec.specs.declared.hazard.FootprintIdx.{FootprintIdx}
use Rattle.kt_schema.specs.Footprint.{IsEntryOf, entry_rows, first_record, record_number, indexed_rows, most_event_bytes}
use Rattle.kt_schema.specs.Index.{event_of, index_row, index_from}
use Rattle.kt_schema.specs.Rows.{footprint_idx_values}
use Rattle.kt_footprint.specs.RoundTrip.{AreFew, AreEntries}

-- rows that have an event and fields behind it
abbrev pub AreWhole : List (List ℕ) → Type 0
AreWhole rows = AllByRecursion (λ row. row ≡ event_of row ∷ drop 1 row) rows

-- rows of this event
abbrev pub AreOf : ℕ → List (List ℕ) → Type 0
AreOf event rows = map (λ row. event ∷ row) (map (drop 1) rows) ≡ rows

of_append : (event : ℕ) (group : List (List ℕ)) (row : List ℕ) → AreOf event group → row ≡ event ∷ drop 1 row → AreOf event (group ++ row ∷ [])
of_append event group row of is = rw (map-append, map-append, of, ← is) refl

-- the first entry of an index says the same as its first row, and the others as the rows behind it
pub record Says (entry : FootprintIdx) (index : List FootprintIdx) (event offset size : ℕ) (rest : List (List ℕ)) : Type 0 where
  pub event_is : entry.event_id ≡ event
  pub offset_is : entry.offset ≡ offset
  pub size_is : entry.size ≡ size
  pub rest_is : map footprint_idx_values index ≡ rest

says : (entry : FootprintIdx) (index : List FootprintIdx) (event offset size : ℕ) (rest : List (List ℕ)) → map footprint_idx_values (entry ∷ index) ≡ index_row event offset size ∷ rest → Says entry index event offset size rest
says entry index event offset size rest is = record { event_is = cc; offset_is = cc; size_is = cc; rest_is = cc }

-- ---- the entry of an event

group_of : (entry : FootprintIdx) (records group rows : List (List ℕ)) (event p : ℕ) → entry.event_id ≡ event → entry.offset ≡ 16 + 12 * p → entry.size ≡ 12 * length group → AreOf event group → drop p records ≡ map (drop 1) (group ++ rows)
    → entry_rows records entry ≡ group
group_of entry records group rows event p event_is at long of here =
    let first : first_record entry ≡ p = omega arith in
    let count : record_number entry ≡ length group = omega arith in
    rw (first, count, here, map-append (drop 1) group rows, take_at (map (drop 1) group) (map (drop 1) rows) (length group) (length-map group (drop 1)), event_is) of

entry_of : (entry : FootprintIdx) (p n total : ℕ) → entry.offset ≡ 16 + 12 * p → entry.size ≡ 12 * n → entry.offset + entry.size ≤ total → entry.size ≤ most_event_bytes → IsEntryOf total entry
entry_of entry p n total at long within few = record { behind_header = omega arith; whole_place = omega arith; whole_size = omega arith; few = few; within = within }

-- ---- the index, row by row

-- what an index gives of the records, and that it names whole ones
pub record Gathers (records : List (List ℕ)) (index : List FootprintIdx) (rows : List (List ℕ)) (total : ℕ) : Type 0 where
  pub rows_are : indexed_rows records index ≡ rows
  pub entries : AreEntries total index

pub gathers_none : (records : List (List ℕ)) (total : ℕ) → Gathers records [] [] total
unfolding indexed_rows
gathers_none records total = record { rows_are = refl; entries = tt }

gathers_more : (records : List (List ℕ)) (entry : FootprintIdx) (index : List FootprintIdx) (group rows : List (List ℕ)) (total : ℕ) → entry_rows records entry ≡ group → IsEntryOf total entry → Gathers records index rows total → Gathers records (entry ∷ index) (group ++ rows) total
unfolding indexed_rows
gathers_more records entry index group rows total is named gathers = record { rows_are = rw (is, gathers.rows_are) refl; entries = (named, gathers.entries) }

-- the records behind a group
records_behind : (records group rows : List (List ℕ)) (p : ℕ) → drop p records ≡ map (drop 1) (group ++ rows) → drop (p + length group) records ≡ map (drop 1) rows
records_behind records group rows p here =
    sym (drop-drop (length group) p records) ∙ ap (drop (length group)) (here ∙ map-append (drop 1) group rows)
    ∙ ap (λ (n : ℕ). drop n (map (drop 1) group ++ map (drop 1) rows)) (sym (length-map group (drop 1))) ∙ drop-append_seam (map (drop 1) group) (map (drop 1) rows)

-- from a group of an event on, the index gives the rows
abbrev pub Gathering : List (List ℕ) → List (List ℕ) → Type 0
Gathering records rows = (event offset size p total : ℕ) (group : List (List ℕ)) (index : List FootprintIdx) → offset ≡ 16 + 12 * p → size ≡ 12 * length group → total ≡ offset + (size + 12 * length rows)
    → AreOf event group → AreWhole rows → drop p records ≡ map (drop 1) (group ++ rows) → map footprint_idx_values index ≡ index_from event offset size rows → AreFew index → Gathers records index (group ++ rows) total

-- the group is whole, and the rest of the index gives the rest of the rows
gather_group : (records group rows : List (List ℕ)) (event offset size p total : ℕ) (entry : FootprintIdx) (index : List FootprintIdx) (rest : List (List ℕ)) → Says entry index event offset size rest → offset ≡ 16 + 12 * p → size ≡ 12 * length group → total ≡ offset + (size + 12 * length rows)
    → AreOf event group → drop p records ≡ map (drop 1) (group ++ rows) → entry.size ≤ most_event_bytes → Gathers records index rows total → Gathers records (entry ∷ index) (group ++ rows) total
gather_group records group rows event offset size p total entry index rest told at long whole of here few behind =
    gathers_more records entry index group rows total (group_of entry records group rows event p told.event_is (omega arith) (omega arith) of here) (entry_of entry p (length group) total (omega arith) (omega arith) (omega arith) few) behind

pub gather : (records rows : List (List ℕ)) → Gathering records rows
unfolding index_from
gather records [] event offset size p total group [] at long whole of each here is few = absurd (cc)
gather records [] event offset size p total group (entry ∷ []) at long whole of each here is few = gather_group records group [] event offset size p total entry [] [] (says entry [] event offset size [] is) at long whole of here few.0 (gathers_none records total)
gather records [] event offset size p total group (entry ∷ other ∷ index) at long whole of each here is few = absurd (cc)
gather records (row ∷ rows) event offset size p total group index at long whole of each here is few = by_test (event_of row == event) refl (gather records rows) is few
  where
    by_next : (index : List FootprintIdx) → Gathering records rows → map footprint_idx_values index ≡ index_row event offset size ∷ index_from (event_of row) (offset + size) 12 rows → AreFew index → Gathers records index (group ++ row ∷ rows) total
    by_next [] onward is few = absurd (cc)
    by_next (entry ∷ index) onward is few =
        let told = says entry index event offset size _ is in
        gather_group records group (row ∷ rows) event offset size p total entry index _ told at long whole of here few.0
        (onward (event_of row) (offset + size) 12 (p + length group) total (row ∷ []) index (omega arith) (omega arith) (omega (arith, whole)) (ap (λ (r : List ℕ). r ∷ []) (sym each.0)) each.1 (records_behind records group (row ∷ rows) p here) told.rest_is few.1)

    by_test : (b : Bool) → (event_of row == event) ≡ b → Gathering records rows → map footprint_idx_values index ≡ index_from event offset size (row ∷ rows) → AreFew index → Gathers records index (group ++ row ∷ rows) total
    by_test true test onward is few =
        let same : event_of row ≡ event = grind (arith, nat_tests, test) in
        let joined : (group ++ (row ∷ [])) ++ rows ≡ group ++ (row ∷ rows) = append_assoc group (row ∷ []) rows in
        subst (λ (xs : List (List ℕ)). Gathers records index xs total) joined
        (onward event offset (size + 12) p total (group ++ (row ∷ [])) index at (omega (arith, long, length-append group (row ∷ []))) (omega (arith, whole)) (of_append event group row of (each.0 ∙ ap (λ (e : ℕ). e ∷ drop 1 row) same)) each.1 (here ∙ ap (map (drop 1)) (sym joined)) (rw test at is) few)
    by_test false test onward is few = by_next index onward (rw test at is) few
