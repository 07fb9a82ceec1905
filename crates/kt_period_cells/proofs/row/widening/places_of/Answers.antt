-- The place of one cell more.
use Rattle.std.proofs.Common.{refl, ◌∙◌}
use Rattle.std.proofs.lemmas.List.{length-set}
use Rattle.kt_period_cells.proofs.PlacedCells.{places_more}
use Rattle.kt_period_cells.proofs.row.widening.places_of.Goals as goal

pub loop-one-preserved : goal.loop-one-preserved
loop-one-preserved c =
    let now = c.loop-one.invariant in
    record {
      len = length-set c.loop-one.places.items _ _ ∙ now.len;
      cells = places_more c.loop-one.places.items _ c.args.cells.now c.loop-one.one-index c.args.samples (0, record { total = 0; maximum = 0 }) c.requires.rising c.requires.fits now.len c.loop-one-test.true now.cells refl;
    }
