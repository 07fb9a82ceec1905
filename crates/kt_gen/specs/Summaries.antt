-- The summary sets of a generated set.
-- The rules: docs/GENERATOR.md, "Summary sets".
use Rattle.std.specs.Prelude.{ℕ, ◌+◌, ◌-◌, ◌/◌, ◌%◌, List, [], ◌∷◌}
use Rattle.std.specs.List.{flat_map, range_with_len}
use Rattle.kt_gen.specs.Financial.{output_count}

-- the item of an output
abbrev pub item_of : ℕ → ℕ
item_of output = (output - 1) / 2 + 1

-- what belongs to an item has summary 1 in set 1, and in set 2 one of four
abbrev pub summary_rows : ℕ → ℕ → List (List ℕ)
summary_rows number item = (number ∷ 1 ∷ 1 ∷ []) ∷ (number ∷ (1 + (item - 1) % 4) ∷ 2 ∷ []) ∷ []

-- the summaries of items
unfoldable pub gul_summary_rows : ℕ → List (List ℕ)
gul_summary_rows items = flat_map (λ item. summary_rows item item) (range_with_len 1 items)

-- those of outputs
unfoldable pub fm_summary_rows : ℕ → List (List ℕ)
fm_summary_rows items = flat_map (λ output. summary_rows output (item_of output)) (range_with_len 1 (output_count items))
