-- Lists of losses with the same ranked losses.
-- The rules: docs/CALCULATION.md, "Exceedance curves".
use Rattle.std.specs.Prelude.{ℕ, ◌-◌, ◌/◌, ◌≤◌, ◌≡◌, List, [], ◌∷◌, All, sum_by, nat_le, if◌then◌else◌}
use Rattle.std.specs.List.{flat_map, slice_index}
use Rattle.kt_cell.specs.Losses.{one_if}
use Rattle.kt_ranks.specs.RankedLosses.{ranked_loss}

-- how many values are at least this one
abbrev pub reaching : ℕ → List ℕ → ℕ
reaching least values = sum_by (λ value. one_if (nat_le least value)) values

-- as many values reach each amount above 0: then the losses of all ranks are the same, and zeros do not matter
abbrev pub SameRanks : List ℕ → List ℕ → Type 0
SameRanks values others = (least : ℕ) → 1 ≤ least → reaching least values ≡ reaching least others

-- values in falling order
abbrev pub Falls : List ℕ → Type 0
Falls [] = Unit {0}
Falls (value ∷ values) = All (λ later. later ≤ value) values × Falls values

-- the ranks whose losses a curve of so many values asks for: of each return period that is at most their number, the two between
-- whose losses its own lies
abbrev pub curve_ranks : ℕ → List ℕ → List ℕ
curve_ranks count returns = flat_map (λ return. if nat_le return count then (count / return - 1) ∷ count / return ∷ [] else []) returns

-- the losses of the two ranks of a return period stand at their places
abbrev pub HasLosses : List ℕ → List ℕ → ℕ → ℕ → Type 0
HasLosses found values count return =
    (slice_index found (count / return - 1) ≡ ranked_loss values (count / return - 1)) × (slice_index found (count / return) ≡ ranked_loss values (count / return))
