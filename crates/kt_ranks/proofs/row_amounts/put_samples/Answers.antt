-- The cells of a row with places are those of its places.
use Rattle.std.proofs.Common.{ap, length, arith}
use Rattle.kt_period_cells.proofs.PlacedCells.{placed_cells}
use Rattle.kt_ranks.proofs.row_amounts.put_samples.Goals as goal

pub returns-clause-more : goal.returns-clause-more
returns-clause-more c = rw (placed_cells c.args.row.now (omega (arith, c.if-last-places.false, ap length c.places-places.ensures.value))) (rw c.places-places.ensures.value at c.put_places.ensures.more)
