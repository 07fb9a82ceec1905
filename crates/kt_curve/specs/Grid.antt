-- The values of a summary in all periods, zeros included, and their mean and deviation.
-- The rules: docs/CALCULATION.md, "Average annual loss".
use Rattle.std.specs.Prelude.{Bool, true, false, if◌then◌else◌, ◌≡◌, ℕ, ◌*◌, ℤ, pos, negsuc, List, [], ◌∷◌, map, sum, sum_by}
use Rattle.std.specs.List.{flat_map, range_with_len}
use Rattle.std.specs.Map.{keys_of}
use Rattle.kt_money.specs.Rounding.{mean_of, deviation_of}
use Rattle.kt_money.specs.declared.moments.MeanSd.{MeanSd}
use Rattle.kt_rec.specs.Rising.{put}
use Rattle.kt_rec.specs.declared.perspective.Perspective.{Perspective}
use Rattle.kt_rec.specs.declared.perspective.CellKey.{CellKey}
use Rattle.kt_cell.specs.declared.cell.Cell.{Cell}
use Rattle.kt_cell.specs.Losses.{key_of}
use Rattle.kt_cell.specs.Sets.{in_set, summary_entries}
use Rattle.kt_cell.specs.Standing.{cell_at}

-- the sidx of the mean alone
abbrev pub mean_sidx : List ℤ
mean_sidx = negsuc 0 ∷ []

-- the sidx of the samples: 1 to `samples`
abbrev pub sample_sidx : ℕ → List ℤ
sample_sidx samples = map pos (range_with_len 1 samples)

-- the keys of a summary with these sidx: sidx by sidx, and period by period
abbrev pub keys_for : Perspective → ℕ → ℕ → List ℤ → ℕ → List CellKey
keys_for perspective set summary sidxs periods = flat_map (λ sidx. map (key_of perspective set summary sidx) (range_with_len 1 periods)) sidxs

-- the mean and the deviation of some amounts, of which there are `count`
abbrev pub moments_of : ℕ → List ℕ → MeanSd
moments_of count amounts = record { mean = mean_of count (sum amounts); sd = deviation_of count (sum amounts) (sum_by (λ amount. amount * amount) amounts) }

-- the summary ids of a perspective and set among these keys, each once and rising
abbrev pub summary_ids : Perspective → ℕ → List CellKey → List ℕ
summary_ids perspective set [] = []
summary_ids perspective set (key ∷ keys) = if in_set perspective set key then put key.summary (summary_ids perspective set keys) else summary_ids perspective set keys

-- the keys of the means, or of the samples
abbrev pub sidx_of_kind : Bool → ℕ → List ℤ
sidx_of_kind true samples = mean_sidx
sidx_of_kind false samples = sample_sidx samples

-- entries that have for each key of a perspective and set what others have
abbrev pub HasSet : Perspective → ℕ → List (CellKey × Cell) → List (CellKey × Cell) → Type 0
HasSet perspective set found entries = (key : CellKey) → in_set perspective set key ≡ true → cell_at found key ≡ cell_at entries key

-- a text for each summary among the entries, by rising id
abbrev pub by_summary : Perspective → ℕ → (ℕ → List (CellKey × Cell) → List ℕ) → List (CellKey × Cell) → List ℕ
by_summary perspective set text entries = flat_map (λ summary. text summary (summary_entries summary entries)) (summary_ids perspective set (keys_of entries))
