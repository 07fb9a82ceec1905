-- A loss taken from a cell, once the bound of the row is the greatest total.
use Rattle.std.proofs.Common.{sym, ◌∙◌, refl}
use Rattle.kt_cell.specs.Standing.{most_total}
use Rattle.kt_period_cells.proofs.RowEdits.{changes_bound, lowers_down, lowers_out}
use Rattle.kt_period_cells.proofs.row.Row.lower.Goals as goal

pub returns-then-cell-loss-clause-value : goal.returns-then-cell-loss-clause-value
returns-then-cell-loss-clause-value c =
    lowers_out c.args.self.now c.replace.new.self c.args.sample c.args.loss c.args.greatest c.in-Some.cell (sym c.in-Some.is ∙ c.cell.ensures.value) c.if-cell-loss.true
    (changes_bound c.args.self.now c.replace.new.self most_total c.args.sample _ c.replace.ensures.value)

pub returns-clause-value : goal.returns-clause-value
returns-clause-value c =
    lowers_down c.args.self.now c.replace-2.new.self c.args.sample c.args.loss c.args.greatest c.in-Some.cell _ (sym c.in-Some.is ∙ c.cell.ensures.value) c.if-cell-loss.false refl
    (changes_bound c.args.self.now c.replace-2.new.self most_total c.args.sample _ c.replace-2.ensures.value)
