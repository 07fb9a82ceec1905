-- The events, the items and the coverages of a generated set.
-- The rules: docs/GENERATOR.md, "Exposure".
use Rattle.std.specs.Prelude.{ℕ, ◌+◌, ◌-◌, ◌/◌, ◌%◌, List, [], ◌∷◌, map}
use Rattle.std.specs.List.{range_with_len}
use Rattle.kt_gen.specs.Draws.{draw}

-- the coverage of an item: each has two items, the last maybe one
abbrev pub coverage_of : ℕ → ℕ
coverage_of item = (item + 1) / 2

-- how many coverages so many items have
abbrev pub coverage_count : ℕ → ℕ
coverage_count items = coverage_of items

-- the row of an event
abbrev pub event_row : ℕ → List ℕ
event_row event = event ∷ []

-- the row of an item: its areaperil is one of 50, its vulnerability one of 3, and its group is that of its coverage
abbrev pub item_row : ℕ → List ℕ
item_row item = item ∷ coverage_of item ∷ (1 + (item - 1) % 50) ∷ (1 + (item - 1) % 3) ∷ coverage_of item ∷ []

-- the row of a coverage: its value in cents is a draw, the one that has its number
abbrev pub coverage_row : ℕ → ℕ → List ℕ
coverage_row seed coverage = coverage ∷ (10000000 + draw seed coverage 90000000) ∷ []

-- events 1 to so many
unfoldable pub event_rows : ℕ → List (List ℕ)
event_rows events = map event_row (range_with_len 1 events)

-- items 1 to so many
unfoldable pub item_rows : ℕ → List (List ℕ)
item_rows items = map item_row (range_with_len 1 items)

-- the coverages of so many items
unfoldable pub coverage_rows : ℕ → ℕ → List (List ℕ)
coverage_rows seed items = map (coverage_row seed) (range_with_len 1 (coverage_count items))
