-- The tables of exceedance curves, from the entries of a set.
use Rattle.std.proofs.Common.{◌≡◌, ℕ, List, ap, ◌∙◌}
use Rattle.std.specs.List.{flat_map}
use Rattle.std.specs.Map.{keys_of}
use Rattle.kt_rec.specs.declared.perspective.Perspective.{Perspective}
use Rattle.kt_rec.specs.declared.perspective.CellKey.{CellKey}
use Rattle.kt_cell.specs.declared.cell.Cell.{Cell}
use Rattle.kt_rec.specs.declared.curve.Curve.{Curve}
use Rattle.kt_cell.specs.Losses.{Added, all_losses}
use Rattle.kt_curve.specs.Grid.{summary_ids, HasSet, by_summary}
use Rattle.kt_cell.specs.Sets.{summary_entries}
use Rattle.kt_cell.specs.Standing.{Standing, cell_at}
use Rattle.kt_cell.specs.Amounts.{amount_in}
use Rattle.kt_curve.specs.Exceedance.{lec_rows, amount_of, takes_maxima, exceedance_rows}
use Rattle.kt_curve.specs.OwnTables.{curves_agree}
use Rattle.kt_curve.proofs.Averages.{losses_positive}
use Rattle.kt_curve.proofs.Ids.{amounts_of_standing, ids_of_standing, flat_map_each}

-- the rows of the entries of a set are those of the losses for which they stand
pub curves_of_standing : (curve : Curve) (p : Perspective) (s n samples : ℕ) (returns : List ℕ) (history : List Added) (es part : List (CellKey × Cell)) → Standing (all_losses history) es → HasSet p s part es →
    by_summary p s (λ summary group. lec_rows curve p s n samples (λ key. amount_in (takes_maxima curve) (cell_at group key)) returns summary) part ≡ exceedance_rows curve p s n samples (all_losses history) returns
curves_of_standing curve p s n samples returns history es part stands has_set =
    flat_map_each (λ summary. lec_rows curve p s n samples (λ key. amount_in (takes_maxima curve) (cell_at (summary_entries summary part) key)) returns summary) (lec_rows curve p s n samples (amount_of (takes_maxima curve) (all_losses history)) returns)
    (λ summary. curves_agree p s p summary _ (amount_of (takes_maxima curve) (all_losses history)) (amounts_of_standing (takes_maxima curve) p s summary (all_losses history) es part stands has_set) curve n samples returns)
    (summary_ids p s (keys_of part))
    ∙ ap (flat_map (lec_rows curve p s n samples (amount_of (takes_maxima curve) (all_losses history)) returns)) (ids_of_standing p s (all_losses history) es part stands has_set (losses_positive history))
