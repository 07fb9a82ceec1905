-- Ranked losses: the loss that is reached once in so many periods, and the rows of one curve.
-- The rules: docs/CALCULATION.md, "Exceedance curves"; docs/OUTPUTS.md, "Exceedance curve tables".
use Rattle.std.specs.Prelude.{ℕ, ◌+◌, ◌-◌, ◌*◌, ◌/◌, List, [], ◌∷◌, ◌++◌, nat_le, if◌then◌else◌}
use Rattle.std.specs.List.{flat_map, join_with_byte, slice_index}
use Rattle.kt_money.specs.NumberText.{count_text, money_text}

-- a value put in its place among falling ones
abbrev pub with_value : ℕ → List ℕ → List ℕ
with_value value [] = value ∷ []
with_value value (first ∷ later) = if nat_le first value then value ∷ first ∷ later else first ∷ with_value value later

-- values in falling order
abbrev pub falling : List ℕ → List ℕ
falling [] = []
falling (value ∷ values) = with_value value (falling values)

-- the loss of a rank, counted from 0: the greatest has rank 0; 0 behind the last
abbrev pub ranked_loss : List ℕ → ℕ → ℕ
ranked_loss values rank = slice_index (falling values) rank

-- the loss of a return period among so many ranked losses: with j the whole quotient of the two, what lies between the loss
-- of rank j and the one behind it
abbrev pub loss_between : ℕ → ℕ → ℕ → ℕ → ℕ → ℕ
loss_between count return rank upper lower = lower + rank * (return * (rank + 1) - count) * (upper - lower) / count

-- the loss of a return period that is at most the number of values
abbrev pub exceedance_loss : ℕ → List ℕ → ℕ → ℕ
exceedance_loss count values return =
    let rank = count / return in
    loss_between count return rank (ranked_loss values (rank - 1)) (ranked_loss values rank)

-- a line of a table: its fields with a comma between each two, and an LF
abbrev pub table_line : List (List ℕ) → List ℕ
table_line fields = join_with_byte 44 fields ++ 10 ∷ []

-- a row: the summary id, the type or the sidx, the return period and its loss
abbrev pub lec_row : ℕ → ℕ → ℕ → ℕ → List ℕ
lec_row summary column return loss = table_line (count_text summary ∷ count_text column ∷ count_text return ∷ money_text loss ∷ [])

-- the rows of one curve: a row for each return period that is at most the number of values, in their order
abbrev pub curve_rows : ℕ → ℕ → ℕ → List ℕ → List ℕ → List ℕ
curve_rows summary column count values returns =
    flat_map (λ return. if nat_le return count then lec_row summary column return (exceedance_loss count values return) else []) returns
