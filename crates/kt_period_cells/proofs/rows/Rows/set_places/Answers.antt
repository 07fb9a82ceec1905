-- The places of a set, by summary.
use Rattle.kt_period_cells.specs.Outcomes.{if_ok}
use Rattle.kt_period_cells.proofs.SetRows.{set_is}
use Rattle.kt_period_cells.proofs.rows.Rows.set_places.Goals as goal

pub returns : goal.returns
returns c =
    let found = rw (← c.self.view_is) at c.in_ok-found.ensures in
    record {
      value = rw (← c.self.view_is) (if_ok _ _ c.of_rows.result (λ places kept.
          set_is c.args.perspective c.args.set c.self.inside.held c.self.inside.index.entries (record { periods = c.self.inside.periods; samples = c.self.inside.samples; rows = c.self.inside.rows.items }) c.in_ok-found.found.items places c.self.invariant found
          kept) c.of_rows.ensures.kept);
    }
