-- What the parts of an event list make together.
-- The rules: docs/COMMANDS.md, "eve".
use Rattle.std.specs.Prelude.{◌≡◌, ℕ, ◌+◌, ◌-◌, ◌≤◌, List, ◌++◌, length, take, drop}
use Rattle.std.specs.List.{flat_map, range_with_len}
use Rattle.kt_eve.specs.Parts.{end_of_part, part_of}

-- the parts from 1 to a last one, in order
abbrev pub parts_up_to : List ℕ → ℕ → ℕ → List ℕ
parts_up_to events last n = flat_map (λ p. part_of events p n) (range_with_len 1 last)

-- the parts 1 to n in order make the event list
abbrev pub PartsMakeTheEvents : Type 0
PartsMakeTheEvents = (events : List ℕ) (n : ℕ) → 1 ≤ n → parts_up_to events n n ≡ events

-- the parts 1 to p in order make the front of the event list that ends with part p
abbrev pub PartsMakeAFront : Type 0
PartsMakeAFront = (events : List ℕ) (p n : ℕ) → 1 ≤ n → parts_up_to events p n ≡ take (end_of_part (length events) p n) events

-- part p + 1 begins where part p ends: the two together are one slice
abbrev pub PartsMeet : Type 0
PartsMeet = (events : List ℕ) (p n : ℕ) → 1 ≤ p → p + 1 ≤ n
    → part_of events p n ++ part_of events (p + 1) n ≡ drop (end_of_part (length events) (p - 1) n) (take (end_of_part (length events) (p + 1) n) events)
