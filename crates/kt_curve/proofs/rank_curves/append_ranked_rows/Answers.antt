-- The losses stand at the places of their ranks, and the rows are theirs.
use Rattle.std.proofs.Common.{◌≡◌, length}
use Rattle.kt_period_cells.specs.Outcomes.{on_more}
use Rattle.kt_curve.proofs.Curves.{rows_of_count}
use Rattle.kt_curve.proofs.RankMeans.{placed_asked}
use Rattle.kt_curve.proofs.rank_curves.append_ranked_rows.Goals as goal

pub returns-clause-ok : goal.returns-clause-ok
returns-clause-ok c =
    let placed = c.put_losses.new.values in
    let len : length placed ≡ length c.args.placed.now = c.put_losses.auto.values in
    on_more c.append_rows.result
    (λ rows values same is.
    rows_of_count _ _ _ _ _ _ values _ (rows values (placed_asked placed values c.args.ranks.now c.args.returns.now (length placed) (rw len c.requires.asked) (c.put_losses.ensures values same is))) len)
    c.append_rows.ensures.ok
