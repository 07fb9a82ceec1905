-- The average annual loss of each summary: the mean and the deviation of its totals over all periods, zeros included.
-- The rules: docs/CALCULATION.md, "Average annual loss".
use Rattle.std.specs.Prelude.{ℕ, ◌*◌, List, [], ◌∷◌, ◌++◌, map, codes}
use Rattle.std.specs.List.{flat_map}
use Rattle.kt_money.specs.NumberText.{count_text, money_text}
use Rattle.kt_money.specs.declared.moments.MeanSd.{MeanSd}
use Rattle.kt_rec.specs.declared.perspective.Perspective.{Perspective}
use Rattle.kt_rec.specs.declared.perspective.CellKey.{CellKey}
use Rattle.kt_cell.specs.Losses.{KeyLoss, total}
use Rattle.kt_ranks.specs.RankedLosses.{table_line}
use Rattle.kt_curve.specs.Grid.{mean_sidx, sample_sidx, keys_for, moments_of, summary_ids}

-- the names of the columns
abbrev pub aal_heading_text : List ℕ
aal_heading_text = codes "summary_id,type,mean,standard_deviation" ++ 10 ∷ []

-- a row: the summary id, the type, the mean and the deviation
abbrev pub aal_row : ℕ → ℕ → MeanSd → List ℕ
aal_row summary kind moments = table_line (count_text summary ∷ count_text kind ∷ money_text moments.mean ∷ money_text moments.sd ∷ [])

-- the two rows of a summary with these amounts at its keys: type 1 over the periods of the mean, type 2 over those of all samples
abbrev pub aal_rows : Perspective → ℕ → ℕ → ℕ → (CellKey → ℕ) → ℕ → List ℕ
aal_rows perspective set periods samples amount summary =
    aal_row summary 1 (moments_of periods (map amount (keys_for perspective set summary mean_sidx periods)))
    ++ aal_row summary 2 (moments_of (periods * samples) (map amount (keys_for perspective set summary (sample_sidx samples) periods)))

-- the rows of a perspective and set: those of each summary with a cell, by rising id
abbrev pub average_annual_loss_rows : Perspective → ℕ → ℕ → ℕ → List KeyLoss → List ℕ
average_annual_loss_rows perspective set periods samples losses =
    flat_map (aal_rows perspective set periods samples (total losses)) (summary_ids perspective set (map (λ one. one.key) losses))
