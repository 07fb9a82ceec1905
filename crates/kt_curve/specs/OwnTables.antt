-- The table of one set of a perspective is that of its own losses.
-- The rules: docs/CALCULATION.md, "Average annual loss", "Exceedance curves", "Kinds of exceedance curves".
use Rattle.std.specs.Prelude.{◌≡◌, ◌*◌, ◌++◌, ℕ, ℤ, pos, Bool, true, false, List, [], ◌∷◌, map, refl, sum_by}
use Rattle.std.specs.List.{flat_map, range_with_len}
use Rattle.std.proofs.Common.{sym, ap, ◌∙◌}
use Rattle.std.proofs.Math.Path.{fun_ext}
use Rattle.std.proofs.lemmas.List.{map-append}
use Rattle.kt_money.specs.Rounding.{half_up}
use Rattle.kt_rec.specs.declared.curve.Curve.{Curve}
use Rattle.kt_rec.specs.declared.curve.Curve.TheVariants.{FullAep, FullOep, SampleAep, SampleOep, WheatAep, WheatOep, WheatmeanAep, WheatmeanOep}
use Rattle.kt_rec.specs.declared.perspective.CellKey.{CellKey}
use Rattle.kt_rec.specs.declared.perspective.Perspective.{Perspective}
use Rattle.kt_curve.specs.Average.{aal_row, aal_rows, average_annual_loss_rows}
use Rattle.kt_ranks.specs.RankedLosses.{curve_rows, ranked_loss}
use Rattle.kt_curve.specs.Exceedance.{amount_of, exceedance_rows, full_rows, lec_rows, period_means, rank_means, sidx_values, takes_maxima, wheat_rows}
use Rattle.kt_curve.specs.Grid.{keys_for, mean_sidx, moments_of, sample_sidx, summary_ids}
use Rattle.kt_cell.specs.Losses.{Added, KeyLoss, all_losses, key_of, total}
use Rattle.kt_curve.specs.OwnLosses.{key_matches, own_all, own_ids, own_losses, own_maximum, own_records, own_total}

-- two amounts agree on a summary of a set, whose keys have another perspective in the second
abbrev pub Agree : Perspective → ℕ → Perspective → ℕ → (CellKey → ℕ) → (CellKey → ℕ) → Type 0
Agree perspective set other summary amount shown = (sidx : ℤ) (period : ℕ) → amount (key_of perspective set summary sidx period) ≡ shown (key_of other set summary sidx period)

module _ (perspective : Perspective) (set : ℕ) (other : Perspective) (summary : ℕ) (amount shown : CellKey → ℕ) (agree : Agree perspective set other summary amount shown) where
  -- the amounts of a sidx, period by period
  over_periods : (sidx : ℤ) (periods : List ℕ) → map amount (map (key_of perspective set summary sidx) periods) ≡ map shown (map (key_of other set summary sidx) periods)
  over_periods sidx [] = refl
  over_periods sidx (period ∷ periods) =
      ap (λ (n : ℕ). n ∷ map amount (map (key_of perspective set summary sidx) periods)) (agree sidx period)
      ∙ ap (λ (rest : List ℕ). shown (key_of other set summary sidx period) ∷ rest) (over_periods sidx periods)

  -- the amounts of a summary's keys
  over_keys : (sidxs : List ℤ) (periods : ℕ) → map amount (keys_for perspective set summary sidxs periods) ≡ map shown (keys_for other set summary sidxs periods)
  over_keys [] periods = refl
  over_keys (sidx ∷ sidxs) periods =
      map-append amount (map (key_of perspective set summary sidx) (range_with_len 1 periods)) (keys_for perspective set summary sidxs periods)
      ∙ (ap (λ (front : List ℕ). front ++ map amount (keys_for perspective set summary sidxs periods)) (over_periods sidx (range_with_len 1 periods))
      ∙ (ap (λ (rest : List ℕ). map shown (map (key_of other set summary sidx) (range_with_len 1 periods)) ++ rest) (over_keys sidxs periods)
      ∙ sym (map-append shown (map (key_of other set summary sidx) (range_with_len 1 periods)) (keys_for other set summary sidxs periods))))

  -- the averages of a summary
  pub averages_agree : (periods samples : ℕ) → aal_rows perspective set periods samples amount summary ≡ aal_rows other set periods samples shown summary
  averages_agree periods samples =
      ap (λ (amounts : List ℕ). aal_row summary 1 (moments_of periods amounts) ++ aal_row summary 2 (moments_of (periods * samples) (map amount (keys_for perspective set summary (sample_sidx samples) periods)))) (over_keys mean_sidx periods)
      ∙ ap (λ (amounts : List ℕ). aal_row summary 1 (moments_of periods (map shown (keys_for other set summary mean_sidx periods))) ++ aal_row summary 2 (moments_of (periods * samples) amounts)) (over_keys (sample_sidx samples) periods)

  -- the values of a sidx
  values_agree : (periods : ℕ) → ◌≡◌ {A = ℤ → List ℕ} (λ sidx. sidx_values perspective set periods amount summary sidx) (λ sidx. sidx_values other set periods shown summary sidx)
  values_agree periods = fun_ext (λ (sidx : ℤ). over_keys (sidx ∷ []) periods)

  full_agree : (periods samples : ℕ) (returns : List ℕ) → full_rows perspective set periods samples amount returns summary ≡ full_rows other set periods samples shown returns summary
  full_agree periods samples returns =
      ap (λ (values : List ℕ). curve_rows summary 1 periods values returns ++ curve_rows summary 2 (periods * samples) (map amount (keys_for perspective set summary (sample_sidx samples) periods)) returns) (over_keys mean_sidx periods)
      ∙ ap (λ (values : List ℕ). curve_rows summary 1 periods (map shown (keys_for other set summary mean_sidx periods)) returns ++ curve_rows summary 2 (periods * samples) values returns) (over_keys (sample_sidx samples) periods)

  wheat_agree : (periods samples : ℕ) (returns : List ℕ) → wheat_rows perspective set periods samples amount returns summary ≡ wheat_rows other set periods samples shown returns summary
  wheat_agree periods samples returns =
      ap (λ (values : ℤ → List ℕ). flat_map (λ (sample : ℕ). curve_rows summary sample periods (values (pos sample)) returns) (range_with_len 1 samples)) (values_agree periods)

  period_means_agree : (periods samples : ℕ) → period_means perspective set periods samples amount summary ≡ period_means other set periods samples shown summary
  period_means_agree periods samples =
      ap (λ (value : ℕ → ℤ → ℕ). map (λ (period : ℕ). half_up (sum_by (λ (sidx : ℤ). value period sidx) (sample_sidx samples)) samples) (range_with_len 1 periods))
      (fun_ext (λ (period : ℕ). fun_ext (λ (sidx : ℤ). agree sidx period)))

  rank_means_agree : (periods samples : ℕ) → rank_means perspective set periods samples amount summary ≡ rank_means other set periods samples shown summary
  rank_means_agree periods samples =
      ap (λ (values : ℤ → List ℕ). map (λ (rank : ℕ). half_up (sum_by (λ (sidx : ℤ). ranked_loss (values sidx) rank) (sample_sidx samples)) samples) (range_with_len 0 periods)) (values_agree periods)

  -- the curve of a summary, of each kind
  pub curves_agree : (curve : Curve) (periods samples : ℕ) (returns : List ℕ) → lec_rows curve perspective set periods samples amount returns summary ≡ lec_rows curve other set periods samples shown returns summary
  curves_agree FullAep periods samples returns = full_agree periods samples returns
  curves_agree FullOep periods samples returns = full_agree periods samples returns
  curves_agree SampleAep periods samples returns = ap (λ (values : List ℕ). curve_rows summary 2 periods values returns) (period_means_agree periods samples)
  curves_agree SampleOep periods samples returns = ap (λ (values : List ℕ). curve_rows summary 2 periods values returns) (period_means_agree periods samples)
  curves_agree WheatAep periods samples returns = wheat_agree periods samples returns
  curves_agree WheatOep periods samples returns = wheat_agree periods samples returns
  curves_agree WheatmeanAep periods samples returns = ap (λ (values : List ℕ). curve_rows summary 2 periods values returns) (rank_means_agree periods samples)
  curves_agree WheatmeanOep periods samples returns = ap (λ (values : List ℕ). curve_rows summary 2 periods values returns) (rank_means_agree periods samples)

-- ---- the tables of a set

-- the totals or the maxima of a set's own losses agree with those of all losses
pub own_amounts : (perspective : Perspective) (set : ℕ) (other : Perspective) (summary : ℕ) (maxima : Bool) (losses : List KeyLoss) → Agree perspective set other summary (amount_of maxima losses) (amount_of maxima (own_losses perspective set other losses))
own_amounts perspective set other summary true losses sidx period = sym (own_maximum perspective set other losses (key_of perspective set summary sidx period) (key_of other set summary sidx period) (key_matches perspective set other summary sidx period))
own_amounts perspective set other summary false losses sidx period = sym (own_total perspective set other losses (key_of perspective set summary sidx period) (key_of other set summary sidx period) (key_matches perspective set other summary sidx period))

module _ (perspective : Perspective) (set : ℕ) (other : Perspective) where
  -- the averages of a set among all losses are those of its own losses, whichever perspective these are shown as
  own_loss_averages : (periods samples : ℕ) (losses : List KeyLoss) → average_annual_loss_rows perspective set periods samples losses ≡ average_annual_loss_rows other set periods samples (own_losses perspective set other losses)
  own_loss_averages periods samples losses =
      ap (λ (rows : ℕ → List ℕ). flat_map rows (summary_ids perspective set (map (λ one. one.key) losses)))
      (fun_ext (λ (summary : ℕ). averages_agree perspective set other summary (total losses) (total (own_losses perspective set other losses)) (own_amounts perspective set other summary false losses) periods samples))
      ∙ ap (λ (ids : List ℕ). flat_map (aal_rows other set periods samples (total (own_losses perspective set other losses))) ids) (sym (own_ids perspective set other losses))

  own_loss_curves : (curve : Curve) (periods samples : ℕ) (losses : List KeyLoss) (returns : List ℕ) → exceedance_rows curve perspective set periods samples losses returns ≡ exceedance_rows curve other set periods samples (own_losses perspective set other losses) returns
  own_loss_curves curve periods samples losses returns =
      ap (λ (rows : ℕ → List ℕ). flat_map rows (summary_ids perspective set (map (λ one. one.key) losses)))
      (fun_ext (λ (summary : ℕ). curves_agree perspective set other summary (amount_of (takes_maxima curve) losses) (amount_of (takes_maxima curve) (own_losses perspective set other losses)) (own_amounts perspective set other summary (takes_maxima curve) losses) curve periods samples returns))
      ∙ ap (λ (ids : List ℕ). flat_map (lec_rows curve other set periods samples (amount_of (takes_maxima curve) (own_losses perspective set other losses)) returns) ids) (sym (own_ids perspective set other losses))

  -- the averages of a set among all records are those of its own records
  pub own_averages : (periods samples : ℕ) (history : List Added) → average_annual_loss_rows perspective set periods samples (all_losses history) ≡ average_annual_loss_rows other set periods samples (all_losses (own_records perspective set other history))
  own_averages periods samples history =
      own_loss_averages periods samples (all_losses history)
      ∙ ap (λ (losses : List KeyLoss). average_annual_loss_rows other set periods samples losses) (own_all perspective set other history)

  -- so are its curves
  pub own_curves : (curve : Curve) (periods samples : ℕ) (history : List Added) (returns : List ℕ) → exceedance_rows curve perspective set periods samples (all_losses history) returns ≡ exceedance_rows curve other set periods samples (all_losses (own_records perspective set other history)) returns
  own_curves curve periods samples history returns =
      own_loss_curves curve periods samples (all_losses history) returns
      ∙ ap (λ (losses : List KeyLoss). exceedance_rows curve other set periods samples losses returns) (own_all perspective set other history)
