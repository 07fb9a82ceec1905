-- The insurance of a generated set: its programme, terms, profiles and outputs.
-- The rules: docs/GENERATOR.md, "Insurance".
use Rattle.std.specs.Prelude.{ℕ, ◌+◌, ◌-◌, ◌*◌, ◌/◌, List, [], ◌∷◌, ◌++◌, map}
use Rattle.std.specs.List.{flat_map, range_with_len}
use Rattle.kt_gen.specs.Exposure.{coverage_of, coverage_count}

-- the unit of the second level that a coverage is added to: each has ten coverages, the last maybe fewer
abbrev pub top_of : ℕ → ℕ
top_of coverage = 1 + (coverage - 1) / 10

-- how many there are
abbrev pub top_count : ℕ → ℕ
top_count items = top_of (coverage_count items)

-- how many outputs: two layers for each item
abbrev pub output_count : ℕ → ℕ
output_count items = 2 * items

-- at the first level an item is added to its coverage
abbrev pub item_programme_row : ℕ → List ℕ
item_programme_row item = item ∷ 1 ∷ coverage_of item ∷ []

-- at the second a coverage to its unit
abbrev pub coverage_programme_row : ℕ → List ℕ
coverage_programme_row coverage = coverage ∷ 2 ∷ top_of coverage ∷ []

-- the programme
unfoldable pub fm_programme_rows : ℕ → List (List ℕ)
fm_programme_rows items = map item_programme_row (range_with_len 1 items) ++ map coverage_programme_row (range_with_len 1 (coverage_count items))

-- a coverage has one layer
abbrev pub coverage_terms_row : ℕ → List ℕ
coverage_terms_row coverage = 1 ∷ 1 ∷ coverage ∷ 1 ∷ []

-- a unit of the second level has two
abbrev pub top_terms_rows : ℕ → List (List ℕ)
top_terms_rows top = (1 ∷ 2 ∷ top ∷ 2 ∷ []) ∷ (2 ∷ 2 ∷ top ∷ 3 ∷ []) ∷ []

-- which profile each layer has
unfoldable pub fm_policytc_rows : ℕ → List (List ℕ)
fm_policytc_rows items = map coverage_terms_row (range_with_len 1 (coverage_count items)) ++ flat_map top_terms_rows (range_with_len 1 (top_count items))

-- the profiles: a deductible of 1,000.00; a limit of 500,000.00; half of the 2,000,000.00 above it
unfoldable pub fm_profile_rows : List (List ℕ)
fm_profile_rows =
    (1 ∷ 12 ∷ 100000 ∷ 0 ∷ 0 ∷ 0 ∷ 0 ∷ 0 ∷ 0 ∷ 0 ∷ [])
    ∷ (2 ∷ 2 ∷ 0 ∷ 0 ∷ 0 ∷ 0 ∷ 50000000 ∷ 1000000 ∷ 0 ∷ 0 ∷ [])
    ∷ (3 ∷ 2 ∷ 0 ∷ 0 ∷ 0 ∷ 50000000 ∷ 200000000 ∷ 500000 ∷ 0 ∷ 0 ∷ [])
    ∷ []

-- the outputs of an item: one for each layer
abbrev pub output_rows : ℕ → List (List ℕ)
output_rows item = ((2 * (item - 1) + 1) ∷ item ∷ 1 ∷ []) ∷ ((2 * (item - 1) + 2) ∷ item ∷ 2 ∷ []) ∷ []

-- those of all items
unfoldable pub fm_xref_rows : ℕ → List (List ℕ)
fm_xref_rows items = flat_map output_rows (range_with_len 1 items)
