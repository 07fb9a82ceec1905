-- Changes taken back, the last first.
use Rattle.std.proofs.Common.{◌≤◌, ◌∙◌, Some}
use Rattle.std.proofs.lemmas.List.Elements.{All-pop}
use Rattle.kt_cell.specs.declared.cell.Change.{Change}
use Rattle.kt_cell.specs.Standing.{most_total}
use Rattle.kt_period_cells.specs.Rows.{entries_of}
use Rattle.kt_period_cells.proofs.Walks.{returns_pop}
use Rattle.kt_period_cells.proofs.rows.Rows.take_all_back.Goals as goal

pub loop-change-preserved : goal.loop-change-preserved
loop-change-preserved c =
    let now = c.loop-change.invariant in
    let popped = All-pop (λ (change : Change). change.greatest ≤ most_total) _ _ (Some c.in-Some.change) c.in-Some.ensures.items now.greatest in
    record {
      size = (c.take_back.ensures.size.0 ∙ now.size.0, c.take_back.ensures.size.1 ∙ now.size.1);
      greatest = popped.0;
      returns = λ before returns. returns_pop before c.pop.new.self.items c.in-Some.change (entries_of c.loop-change.self.rows) (entries_of c.take_back.new.self.rows)
          (rw c.in-Some.ensures.items at (now.returns before returns)) c.take_back.ensures.taken;
    }
