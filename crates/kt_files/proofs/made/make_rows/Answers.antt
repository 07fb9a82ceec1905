-- The rows of one file more, where there are some.
use Rattle.std.proofs.Common.{◌∙◌, sym, subst}
use Rattle.std.proofs.lemmas.List.Elements.{All-push}
use Rattle.std.specs.Prelude.{All}
use Rattle.kt_files.specs.MadeRows.{IsRowsOf}
use Rattle.kt_files.proofs.made.make_rows.Goals.{then-not-is_empty+in_ok-push, else-not-is_empty}
use Rattle.kt_files.proofs.made.make_rows.Goals as goal

pub loop-file-preserved : goal.loop-file-preserved
loop-file-preserved c =
    let is = IsRowsOf c.args.samples c.args.portfolio.now.rows c.args.blocks.now in
    elim c.if-not-is_empty.branch [
      | then-not-is_empty+in_ok-push w ↦ subst (All is) (sym (w.made-is ∙ w.in_ok-push.ensures.ok)) (All-push is c.loop-file.made _ c.loop-file.invariant c.in_ok-text.ensures)
      | else-not-is_empty w ↦ subst (All is) (sym w.made-is) c.loop-file.invariant
    ]
