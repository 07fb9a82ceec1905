-- The losses of samples and of summaries, which stand one behind the other in one list.
use Rattle.std.proofs.Common.{◌≡◌, ℕ, zero, suc, ◌+◌, ◌-◌, ◌*◌, ◌<◌, ◌≤◌, List, [], ◌∷◌, map, length, get_or, take, drop, arith, sym, ap, ◌∙◌, Bool, pos, length-append}
use Rattle.std.specs.List.{flat_map, range_with_len}
use Rattle.std.proofs.Math.Path.{fun_ext}
use Rattle.std.proofs.lemmas.List.{take_at, drop_at, drop-drop, length-map}
use Rattle.std.proofs.lemmas.List.Concat.{flat_map-cons}
use Rattle.std.proofs.lemmas.List.FromFn.{get_or-range_with_len, length-range_with_len}
use Rattle.kt_cell.specs.Amounts.{amount_at, amounts_of, of_sample}
use Rattle.kt_period_cells.specs.SummaryRows.{IsSummary, group_entries, part_entries}
use Rattle.kt_period_cells.specs.declared.group.SetCells.{SetCells}
use Rattle.kt_period_cells.specs.declared.group.SummaryCells.{SummaryCells}
use Rattle.kt_ranks.specs.RankedLosses.{ranked_loss}
use Rattle.kt_curve.specs.Exceedance.{sidx_values}
use Rattle.kt_curve.specs.LossesOfSamples.{AreSampleLosses, HasSummary, group_losses, losses_of_samples}
use Rattle.kt_ranks.specs.Ranks.{SameRanks}
use Rattle.kt_curve.specs.declared.sample_losses.SampleLosses.{SampleLosses}
use Rattle.kt_curve.proofs.Curves.{ranks_of_equal, ranks_of_sample}
use Rattle.kt_curve.proofs.Gathered.{taken_of}
use Rattle.kt_ranks.specs.RankLaws.{ranked_same}

-- ---- lists of one length

module _ (f : ℕ → List ℕ) (width : ℕ) (wide : (x : ℕ) → length (f x) ≡ width) where
  -- how long they are together
  all_long : (xs : List ℕ) → length (flat_map f xs) ≡ length xs * width
  all_long [] = omega arith
  all_long (x ∷ xs) = ap length (flat_map-cons f x xs) ∙ length-append (f x) (flat_map f xs) ∙ omega (arith, wide x, all_long xs)

  -- each of them is within
  pub list_within : (xs : List ℕ) (place : ℕ) → place < length xs → place * width + width ≤ length (flat_map f xs)
  list_within [] place inside = absurd (omega arith)
  list_within (x ∷ xs) zero inside = omega (arith, all_long (x ∷ xs))
  list_within (x ∷ xs) (suc place) inside = omega (arith, list_within xs place (omega arith), all_long xs, all_long (x ∷ xs))

  -- what stands there
  pub list_there : (xs : List ℕ) (place : ℕ) → place < length xs → take width (drop (place * width) (flat_map f xs)) ≡ f (get_or xs place 0)
  list_there [] place inside = absurd (omega arith)
  list_there (x ∷ xs) zero inside =
      ap (λ n. take width (drop n (flat_map f (x ∷ xs)))) (let e : zero * width ≡ 0 = omega arith in e)
      ∙ ap (take width) (flat_map-cons f x xs) ∙ take_at (f x) (flat_map f xs) width (wide x)
  list_there (x ∷ xs) (suc place) inside =
      ap (take width)
      (ap (λ n. drop n (flat_map f (x ∷ xs))) (let e : suc place * width ≡ width + place * width = omega arith in e) ∙ sym (drop-drop (place * width) width (flat_map f (x ∷ xs)))
      ∙ ap (drop (place * width)) (ap (drop width) (flat_map-cons f x xs) ∙ drop_at (f x) (flat_map f xs) width (wide x)))
      ∙ list_there xs place (omega arith)

-- ---- the samples of a summary

-- the values of one sample
abbrev pub own_values : SummaryCells → ℕ → List ℕ
own_values group sample = sidx_values group.perspective group.set group.periods (amount_at group.maxima (group_entries group)) group.summary (pos sample)

-- the losses of ranks in one sample
abbrev pub own_losses : List ℕ → SummaryCells → ℕ → List ℕ
own_losses ranks group sample = map (ranked_loss (own_values group sample)) ranks

-- the amounts that were taken of a sample have the losses of its values
pub taken_losses : (cells group : SummaryCells) (sample : ℕ) (found ranks : List ℕ) → IsSummary group → cells ≡ group → found ≡ amounts_of cells.maxima (of_sample sample) (group_entries cells) → map (ranked_loss found) ranks ≡ own_losses ranks group sample
taken_losses cells group sample found ranks is same taken =
    let ranks_of = ranks_of_sample group.perspective group.set group.periods group.samples group.summary (group_entries group) group.maxima sample is.cells in
    let same_ranks : SameRanks found (own_values group sample) = ranks_of_equal found (amounts_of group.maxima (of_sample sample) (group_entries group)) (own_values group sample) (taken_of cells group sample found same taken) ranks_of in
    ap (λ (loss : ℕ → ℕ). map loss ranks) (fun_ext (ranked_same found (own_values group sample) same_ranks))

module _ (ranks : List ℕ) (group : SummaryCells) (losses : List ℕ) (are : losses ≡ group_losses ranks group) (sample : ℕ) (some : 1 ≤ sample) (within : sample < group.samples + 1) where
  -- each sample has its losses
  wide : (one : ℕ) → length (own_losses ranks group one) ≡ length ranks
  wide one = length-map ranks (ranked_loss (own_values group one))

  -- there is a place for those of a sample
  place_within : sample - 1 < length (range_with_len 1 group.samples)
  place_within = omega (arith, length-range_with_len 1 group.samples)

  -- they are within the list
  pub sample_within : (sample - 1) * length ranks + length ranks ≤ length losses
  sample_within =
      let long : length losses ≡ length (flat_map (own_losses ranks group) (range_with_len 1 group.samples)) = ap length are in
      omega (arith, long, list_within (own_losses ranks group) (length ranks) wide (range_with_len 1 group.samples) (sample - 1) place_within)

  -- and stand there
  pub sample_there : take (length ranks) (drop ((sample - 1) * length ranks) losses) ≡ own_losses ranks group sample
  sample_there =
      ap (λ (list : List ℕ). take (length ranks) (drop ((sample - 1) * length ranks) list)) are
      ∙ list_there (own_losses ranks group) (length ranks) wide (range_with_len 1 group.samples) (sample - 1) place_within
      ∙ ap (own_losses ranks group) at
    where
      at : get_or (range_with_len 1 group.samples) (sample - 1) 0 ≡ sample
      at = omega (arith, get_or-range_with_len 1 group.samples (sample - 1) 0 (omega arith))

-- ---- the summaries of a set

module _ (part : SetCells) (maxima : Bool) (returns : List ℕ) (kept : SampleLosses) (are : AreSampleLosses part maxima returns kept) (summaries : List ℕ) (is : summaries ≡ part.ids.items) (place : ℕ) (inside : place < length summaries) where
  -- the losses of a summary
  abbrev of_summary : ℕ → List ℕ
  of_summary summary = losses_of_samples kept.ranks.items part.perspective part.set part.periods part.samples (amount_at maxima (part_entries part summary)) summary

  -- those that are kept are of all summaries
  all_kept : kept.losses.items ≡ flat_map of_summary summaries
  all_kept = are.losses ∙ ap (flat_map of_summary) (sym is)

  -- each has as many
  long : (summary : ℕ) → length (of_summary summary) ≡ part.samples * length kept.ranks.items
  long summary =
      all_long (λ sample. map (ranked_loss (sidx_values part.perspective part.set part.periods (amount_at maxima (part_entries part summary)) summary (pos sample))) kept.ranks.items) (length kept.ranks.items)
      (λ sample. length-map kept.ranks.items (ranked_loss (sidx_values part.perspective part.set part.periods (amount_at maxima (part_entries part summary)) summary (pos sample)))) (range_with_len 1 part.samples)
      ∙ ap (λ n. n * length kept.ranks.items) (length-range_with_len 1 part.samples)

  -- those of the summary at a place stand there
  pub has_summary : (group : SummaryCells) → group_entries group ≡ part_entries part (get_or summaries place 0) → (group.perspective ≡ part.perspective) × (group.set ≡ part.set) × (group.summary ≡ get_or summaries place 0) →
      (group.periods ≡ part.periods) × (group.samples ≡ part.samples) × (group.maxima ≡ maxima) → HasSummary group returns place kept
  has_summary group entries own size = record {
    asked = rw size.0 are.asked;
    within = rw size.1 (omega (arith, ap length all_kept, list_within of_summary (part.samples * length kept.ranks.items) long summaries place inside));
    losses =
        rw (entries, own.0, own.1, own.2, size.0, size.1, size.2)
        (ap (λ (list : List ℕ). take (part.samples * length kept.ranks.items) (drop (place * (part.samples * length kept.ranks.items)) list)) all_kept
        ∙ list_there of_summary (part.samples * length kept.ranks.items) long summaries place inside);
  }
