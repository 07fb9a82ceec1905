-- Exceedance curves: which losses are ranked, by the kind of the curve.
-- The rules: docs/CALCULATION.md, "Exceedance curves", "Kinds of exceedance curves".
use Rattle.std.specs.Prelude.{Bool, true, false, ℕ, ◌*◌, ℤ, pos, List, [], ◌∷◌, ◌++◌, map, sum_by, codes, if◌then◌else◌}
use Rattle.std.specs.List.{flat_map, range_with_len}
use Rattle.kt_money.specs.Rounding.{half_up}
use Rattle.kt_rec.specs.declared.perspective.Perspective.{Perspective}
use Rattle.kt_rec.specs.declared.perspective.CellKey.{CellKey}
use Rattle.kt_rec.specs.declared.curve.Curve.{Curve}
use Rattle.kt_rec.specs.declared.curve.Curve.TheVariants.{FullAep, FullOep, SampleAep, SampleOep, WheatAep, WheatOep, WheatmeanAep, WheatmeanOep}
use Rattle.kt_cell.specs.Losses.{KeyLoss, total, maximum, key_of}
use Rattle.kt_curve.specs.Grid.{mean_sidx, sample_sidx, keys_for, summary_ids}
use Rattle.kt_ranks.specs.RankedLosses.{curve_rows, ranked_loss}

-- the names of the columns of a curve, and of one for each sidx
abbrev pub lec_heading_text : Bool → List ℕ
lec_heading_text false = codes "summary_id,type,return_period,loss" ++ 10 ∷ []
lec_heading_text true = codes "summary_id,sidx,return_period,loss" ++ 10 ∷ []

-- whether the table of a curve has a sidx in its rows, or a type
abbrev pub by_sidx : Curve → Bool
by_sidx WheatAep = true
by_sidx WheatOep = true
by_sidx other = false

-- what a curve ranks of a period: the maxima for an oep curve, else the totals
abbrev pub takes_maxima : Curve → Bool
takes_maxima FullOep = true
takes_maxima SampleOep = true
takes_maxima WheatOep = true
takes_maxima WheatmeanOep = true
takes_maxima other = false

-- the totals of the keys, or their maxima
abbrev pub amount_of : Bool → List KeyLoss → CellKey → ℕ
amount_of maxima losses key = if maxima then maximum losses key else total losses key

-- the values of one sidx in all periods, zeros included
abbrev pub sidx_values : Perspective → ℕ → ℕ → (CellKey → ℕ) → ℕ → ℤ → List ℕ
sidx_values perspective set periods amount summary sidx = map amount (keys_for perspective set summary (sidx ∷ []) periods)

-- for each period the mean of its samples
abbrev pub period_means : Perspective → ℕ → ℕ → ℕ → (CellKey → ℕ) → ℕ → List ℕ
period_means perspective set periods samples amount summary =
    map (λ period. half_up (sum_by (λ sidx. amount (key_of perspective set summary sidx period)) (sample_sidx samples)) samples) (range_with_len 1 periods)

-- for each rank the mean of the samples' losses of that rank
abbrev pub rank_means : Perspective → ℕ → ℕ → ℕ → (CellKey → ℕ) → ℕ → List ℕ
rank_means perspective set periods samples amount summary =
    map (λ rank. half_up (sum_by (λ sidx. ranked_loss (sidx_values perspective set periods amount summary sidx) rank) (sample_sidx samples)) samples) (range_with_len 0 periods)

-- the rows of a summary in the curve of a full kind: type 1 over the periods of the mean, type 2 over those of all samples
abbrev pub full_rows : Perspective → ℕ → ℕ → ℕ → (CellKey → ℕ) → List ℕ → ℕ → List ℕ
full_rows perspective set periods samples amount returns summary =
    curve_rows summary 1 periods (map amount (keys_for perspective set summary mean_sidx periods)) returns
    ++ curve_rows summary 2 (periods * samples) (map amount (keys_for perspective set summary (sample_sidx samples) periods)) returns

-- the rows of a summary in the curves of a wheat kind: a curve for each sample
abbrev pub wheat_rows : Perspective → ℕ → ℕ → ℕ → (CellKey → ℕ) → List ℕ → ℕ → List ℕ
wheat_rows perspective set periods samples amount returns summary =
    flat_map (λ sample. curve_rows summary sample periods (sidx_values perspective set periods amount summary (pos sample)) returns) (range_with_len 1 samples)

-- the rows of a summary in a curve of this kind
abbrev pub lec_rows : Curve → Perspective → ℕ → ℕ → ℕ → (CellKey → ℕ) → List ℕ → ℕ → List ℕ
lec_rows FullAep = full_rows
lec_rows FullOep = full_rows
lec_rows SampleAep = λ perspective set periods samples amount returns summary. curve_rows summary 2 periods (period_means perspective set periods samples amount summary) returns
lec_rows SampleOep = λ perspective set periods samples amount returns summary. curve_rows summary 2 periods (period_means perspective set periods samples amount summary) returns
lec_rows WheatAep = wheat_rows
lec_rows WheatOep = wheat_rows
lec_rows WheatmeanAep = λ perspective set periods samples amount returns summary. curve_rows summary 2 periods (rank_means perspective set periods samples amount summary) returns
lec_rows WheatmeanOep = λ perspective set periods samples amount returns summary. curve_rows summary 2 periods (rank_means perspective set periods samples amount summary) returns

-- the rows of a perspective and set: those of each summary with a cell, by rising id
abbrev pub exceedance_rows : Curve → Perspective → ℕ → ℕ → ℕ → List KeyLoss → List ℕ → List ℕ
exceedance_rows curve perspective set periods samples losses returns =
    flat_map (lec_rows curve perspective set periods samples (amount_of (takes_maxima curve) losses) returns) (summary_ids perspective set (map (λ one. one.key) losses))
