-- The occurrences and the return periods of a generated set.
-- The rules: docs/GENERATOR.md, "Periods".
use Rattle.std.specs.Prelude.{ℕ, ◌+◌, ◌-◌, ◌*◌, List, [], ◌∷◌}
use Rattle.std.specs.List.{flat_map, range_with_len}
use Rattle.kt_gen.specs.Draws.{draw}

-- how many periods there are
abbrev pub period_count : ℕ
period_count = 10000

-- an occurrence of an event: its period, month and day are three draws behind so many others
abbrev pub occurrence_row : ℕ → ℕ → ℕ → List ℕ
occurrence_row seed before event =
    event ∷ (1 + draw seed (before + 1) period_count) ∷ 1 ∷ (1 + draw seed (before + 2) 12) ∷ (1 + draw seed (before + 3) 28) ∷ []

-- the two occurrences of an event, where those of all events stand behind so many draws
abbrev pub event_occurrences : ℕ → ℕ → ℕ → List (List ℕ)
event_occurrences seed before event =
    occurrence_row seed (before + (event - 1) * 6) event ∷ occurrence_row seed (before + (event - 1) * 6 + 3) event ∷ []

-- those of events 1 to so many
unfoldable pub occurrence_rows : ℕ → ℕ → ℕ → List (List ℕ)
occurrence_rows seed before events = flat_map (event_occurrences seed before) (range_with_len 1 events)

-- the return periods
unfoldable pub return_period_rows : List (List ℕ)
return_period_rows = (1000 ∷ []) ∷ (500 ∷ []) ∷ (250 ∷ []) ∷ (100 ∷ []) ∷ (50 ∷ []) ∷ (10 ∷ []) ∷ []
