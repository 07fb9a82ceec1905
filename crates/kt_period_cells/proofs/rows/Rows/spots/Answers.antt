-- The row of one occurrence more.
use Rattle.std.proofs.Common.{◌∙◌, arith, refl}
use Rattle.std.proofs.lemmas.Grind.{common_steps}
use Rattle.std.proofs.lemmas.List.Elements.{All-push, All-weaker}
use Rattle.kt_rec.specs.declared.periods.Occurrence.{Occurrence}
use Rattle.kt_period_cells.specs.declared.rows.Spot.{Spot}
use Rattle.kt_period_cells.specs.Rows.{IsSpot, row_keys, row_for}
use Rattle.kt_period_cells.proofs.Spots.{periods_more}
use Rattle.kt_period_cells.proofs.rows.Rows.spots.Goals as goal

-- no occurrence
abbrev none : Occurrence
none = record { event_id = 0; period_no = 0; occ_year = 0; occ_month = 0; occ_day = 0 }

pub loop-occurrence-preserved : goal.loop-occurrence-preserved
loop-occurrence-preserved c =
    let now = c.loop-occurrence.invariant in
    record {
      size = (c.in_ok-row.ensures.size.0 ∙ now.size.0, c.in_ok-row.ensures.size.1 ∙ now.size.1);
      entries = c.in_ok-row.ensures.entries ∙ now.entries;
      spots = rw c.in_ok-push.ensures.items (All-push (IsSpot c.args.perspective c.args.set c.args.summary (row_keys c.row.new.self.rows)) _ _
          (All-weaker (IsSpot c.args.perspective c.args.set c.args.summary (row_keys c.loop-occurrence.self.rows)) (IsSpot c.args.perspective c.args.set c.args.summary (row_keys c.row.new.self.rows))
          (λ (spot : Spot) there. c.in_ok-row.ensures.rows (row_for c.args.perspective c.args.set c.args.summary spot.period) spot.row there) _ now.spots) c.in_ok-row.ensures.ok);
      periods = rw c.in_ok-push.ensures.items (periods_more c.args.at.now c.loop-occurrence.occurrence-index c.loop-occurrence.spots.items _ none (omega arith) now.periods refl);
    }

pub loop-occurrence-init : goal.loop-occurrence-init
loop-occurrence-init c = grind (arith, common_steps)

pub returns-clause-periods : goal.returns-clause-periods
returns-clause-periods c = grind (arith, common_steps)

pub row-requires : goal.row-requires
row-requires c = grind (arith, common_steps)
