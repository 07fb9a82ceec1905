-- The losses of a pair, occurrence by occurrence.
use Rattle.std.proofs.Common.{inl, inr, arith, sym, ap, ◌∙◌, ⊎_elim}
use Rattle.std.proofs.lemmas.Grind.{common_steps}
use Rattle.kt_rec.specs.declared.perspective.CellKey.{CellKey}
use Rattle.kt_period_cells.specs.declared.rows.Spot.{Spot}
use Rattle.kt_period_cells.specs.Rows.{spot_loss}
use Rattle.kt_cell.specs.TotalLaws.{added_some}
use Rattle.kt_period_cells.proofs.Walks.{pair_more, pair_stop, returns_stop}
use Rattle.kt_period_cells.proofs.rows.Rows.add_pair.Goals as goal

-- no row
abbrev none : Spot
none = record { period = 0; row = 0 }

pub loop-spot-preserved : goal.loop-spot-preserved
loop-spot-preserved c =
    let now = c.loop-spot.invariant in
    record {
      size = (c.in-Ok.ensures.size.0 ∙ now.size.0, c.in-Ok.ensures.size.1 ∙ now.size.1);
      rows = c.in-Ok.ensures.rows ∙ now.rows;
      greatest = c.in-Ok.ensures.journal;
      going = λ before done going.
          let g = now.going before done going in
          pair_more (spot_loss c.args.perspective c.args.set c.args.summary c.args.pair.now) c.args.spots.now c.loop-spot.spot-index none (record { key = c.key_of-key.result; loss = c.args.pair.now.loss }) before done
          _ _ _ _ (omega arith) (ap (λ (k : CellKey). record { key = k; loss = c.args.pair.now.loss }) (sym c.key_of-key.ensures.value)) g (added_some c.args.pair.now c.requires.added) (c.in-Ok.ensures.step _ g.stands) (c.in-Ok.ensures.noted _ g.stands);
    }

pub returns-in-Err-clause-step : goal.returns-in-Err-clause-step
returns-in-Err-clause-step c = λ before done going.
    let g = c.loop-spot.invariant.going before done going in
    let s = c.in-Err.ensures.step _ g.stands in (
      ⊎_elim (λ e. inl e) (λ found. inr (pair_stop (spot_loss c.args.perspective c.args.set c.args.summary c.args.pair.now) c.args.spots.now c.loop-spot.spot-index none (record { key = c.key_of-key.result; loss = c.args.pair.now.loss }) before done c.in-Err.stop (omega arith) (ap (λ (k : CellKey). record { key = k; loss = c.args.pair.now.loss }) (sym c.key_of-key.ensures.value)) g.clear found)) s.0,
      returns_stop before _ _ _ _ _ g s.1 (c.in-Err.ensures.noted _ g.stands),
    )

pub put-requires-clause-row : goal.put-requires-clause-row
put-requires-clause-row c = grind (arith, common_steps)

pub put-requires-clause-some : goal.put-requires-clause-some
put-requires-clause-some c = added_some c.args.pair.now c.requires.added
