-- The footprint and the random numbers of a generated set.
-- The rules: docs/GENERATOR.md, "Hazard".
use Rattle.std.specs.Prelude.{ℕ, ◌+◌, ◌-◌, ◌*◌, ◌%◌, List, [], ◌∷◌, map}
use Rattle.std.specs.List.{flat_map, range_with_len}
use Rattle.kt_gen.specs.Draws.{draw}

-- an event strikes ten times: the areaperil of each strike
abbrev pub struck_areaperil : ℕ → ℕ → ℕ
struck_areaperil event strike = 1 + (event * 7 + (strike - 1) * 5) % 50

-- the lower intensity of a strike is a draw: those of the footprint stand behind so many others
abbrev pub struck_intensity : ℕ → ℕ → ℕ → ℕ → ℕ
struck_intensity seed before event strike = 1 + draw seed (before + (event - 1) * 10 + strike) 9

-- a strike has an intensity with 0.6, and the next one with 0.4
abbrev pub intensity_rows : ℕ → ℕ → ℕ → List (List ℕ)
intensity_rows event areaperil intensity =
    (event ∷ areaperil ∷ intensity ∷ 600000 ∷ []) ∷ (event ∷ areaperil ∷ (intensity + 1) ∷ 400000 ∷ []) ∷ []

-- the rows of a strike
abbrev pub strike_rows : ℕ → ℕ → ℕ → ℕ → List (List ℕ)
strike_rows seed before event strike =
    intensity_rows event (struck_areaperil event strike) (struck_intensity seed before event strike)

-- the rows of an event
abbrev pub struck_rows : ℕ → ℕ → ℕ → List (List ℕ)
struck_rows seed before event = flat_map (strike_rows seed before event) (range_with_len 1 10)

-- the footprint of events 1 to so many
unfoldable pub footprint_rows : ℕ → ℕ → ℕ → List (List ℕ)
footprint_rows seed before events = flat_map (struck_rows seed before) (range_with_len 1 events)

-- the index of an event: the records of those before stand behind the header of 16 bytes, and each event has 20 of 12 bytes
abbrev pub event_index_row : ℕ → List ℕ
event_index_row event = event ∷ (16 + (event - 1) * 240) ∷ 240 ∷ []

-- those of events 1 to so many
unfoldable pub index_rows : ℕ → List (List ℕ)
index_rows events = map event_index_row (range_with_len 1 events)

-- a random number, behind so many other draws
abbrev pub random_row : ℕ → ℕ → ℕ → List ℕ
random_row seed before number = draw seed (before + number) 1000000 ∷ []

-- numbers 1 to so many
unfoldable pub random_rows : ℕ → ℕ → ℕ → List (List ℕ)
random_rows seed before count = map (random_row seed before) (range_with_len 1 count)
