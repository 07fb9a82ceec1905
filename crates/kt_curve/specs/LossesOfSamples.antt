-- The losses of ranks in each sample of the summaries of a set.
-- The rules: docs/CALCULATION.md, "Kinds of exceedance curves".
use Rattle.std.specs.Prelude.{Bool, true, false, ℕ, ◌+◌, ◌*◌, ◌≤◌, ◌≡◌, pos, List, map, length, take, drop}
use Rattle.std.specs.List.{flat_map, range_with_len}
use Rattle.std.specs.List.Sorted.{IsPermutation}
use Rattle.kt_rec.specs.declared.perspective.Perspective.{Perspective}
use Rattle.kt_rec.specs.declared.perspective.CellKey.{CellKey}
use Rattle.kt_rec.specs.declared.curve.Curve.{Curve}
use Rattle.kt_rec.specs.declared.curve.Curve.TheVariants.{WheatAep, WheatOep, WheatmeanAep, WheatmeanOep}
use Rattle.kt_cell.specs.Amounts.{amount_at}
use Rattle.kt_period_cells.specs.SummaryRows.{group_entries, part_entries}
use Rattle.kt_period_cells.specs.declared.group.SetCells.{SetCells}
use Rattle.kt_period_cells.specs.declared.group.SummaryCells.{SummaryCells}
use Rattle.kt_ranks.specs.RankedLosses.{ranked_loss}
use Rattle.kt_curve.specs.Exceedance.{sidx_values}
use Rattle.kt_ranks.specs.Ranks.{curve_ranks}
use Rattle.kt_curve.specs.declared.sample_losses.SampleLosses.{SampleLosses}

-- whether a curve is made of the losses that each sample has at the ranks: a curve for each sample, or that of their means
abbrev pub ranks_samples : Curve → Bool
ranks_samples WheatAep = true
ranks_samples WheatOep = true
ranks_samples WheatmeanAep = true
ranks_samples WheatmeanOep = true
ranks_samples other = false

-- the losses of ranks in each sample of a summary: sample by sample, and rank by rank
abbrev pub losses_of_samples : List ℕ → Perspective → ℕ → ℕ → ℕ → (CellKey → ℕ) → ℕ → List ℕ
losses_of_samples ranks perspective set periods samples amount summary =
    flat_map (λ sample. map (ranked_loss (sidx_values perspective set periods amount summary (pos sample))) ranks) (range_with_len 1 samples)

-- the same of a summary's cells
abbrev pub group_losses : List ℕ → SummaryCells → List ℕ
group_losses ranks group = losses_of_samples ranks group.perspective group.set group.periods group.samples (amount_at group.maxima (group_entries group)) group.summary

-- the losses of ranks in each sample of summaries of a set: summary by summary
abbrev pub set_losses : List ℕ → SetCells → Bool → List ℕ → List ℕ
set_losses ranks part maxima summaries =
    flat_map (λ summary. losses_of_samples ranks part.perspective part.set part.periods part.samples (amount_at maxima (part_entries part summary)) summary) summaries

-- the losses of the ranks that the curves of a set ask for, at these return periods: summary by summary
pub record AreSampleLosses (part : SetCells) (maxima : Bool) (returns : List ℕ) (kept : SampleLosses) : Type 0 where
  pub asked : IsPermutation (curve_ranks part.periods returns) kept.ranks.items
  pub losses : kept.losses.items ≡ set_losses kept.ranks.items part maxima part.ids.items

-- those of a summary stand at a place
pub record HasSummary (group : SummaryCells) (returns : List ℕ) (place : ℕ) (kept : SampleLosses) : Type 0 where
  pub asked : IsPermutation (curve_ranks group.periods returns) kept.ranks.items
  pub within : place * (group.samples * length kept.ranks.items) + group.samples * length kept.ranks.items ≤ length kept.losses.items
  pub losses : take (group.samples * length kept.ranks.items) (drop (place * (group.samples * length kept.ranks.items)) kept.losses.items) ≡ group_losses kept.ranks.items group
