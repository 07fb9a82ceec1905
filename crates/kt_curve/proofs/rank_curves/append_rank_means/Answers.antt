-- The means stand at the places of the ranks that are asked for.
use Rattle.std.proofs.Common.{◌≡◌, List, ℕ, length, sym, ap, ◌∙◌}
use Rattle.std.proofs.lemmas.List.{length-map}
use Rattle.std.proofs.lemmas.List.FromFn.{length-map-range_with_len}
use Rattle.kt_period_cells.specs.SummaryRows.{group_entries}
use Rattle.kt_cell.specs.Amounts.{amount_at}
use Rattle.kt_period_cells.specs.Outcomes.{on_more}
use Rattle.kt_curve.specs.Exceedance.{rank_means}
use Rattle.kt_curve.proofs.Curves.{rows_of_count}
use Rattle.kt_curve.proofs.rank_curves.append_rank_means.Goals as goal

pub of_summary-requires : goal.of_summary-requires
of_summary-requires c = c.requires.samples.within

pub means_of_ranks-requires-clause-losses : goal.means_of_ranks-requires-clause-losses
means_of_ranks-requires-clause-losses c = rw c.as_slice-ranks.ensures.value (c.of_summary.ensures.value ∙ c.requires.samples.losses)

pub append_ranked_rows-requires-clause-asked : goal.append_ranked_rows-requires-clause-asked
append_ranked_rows-requires-clause-asked c = rw (c.requires.places, c.as_slice-ranks.ensures.value) c.requires.samples.asked

pub append_ranked_rows-requires-clause-len : goal.append_ranked_rows-requires-clause-len
append_ranked_rows-requires-clause-len c = ap length (c.as_slice.ensures.value ∙ c.in_ok-means.ensures.value) ∙ length-map c.as_slice-ranks.result.now _

pub returns-clause-ok : goal.returns-clause-ok
returns-clause-ok c =
    let group = c.args.group.now in
    let whole : List ℕ = rank_means group.perspective group.set group.periods group.samples (amount_at group.maxima (group_entries group)) group.summary in
    let long : length whole ≡ length c.args.placed.now = length-map-range_with_len _ 0 group.periods ∙ sym c.requires.places in
    on_more c.append_ranked_rows.result (λ rows. rows_of_count _ _ _ _ _ _ whole _ (rows whole long (c.as_slice.ensures.value ∙ c.in_ok-means.ensures.value)) c.requires.places) c.append_ranked_rows.ensures.ok
