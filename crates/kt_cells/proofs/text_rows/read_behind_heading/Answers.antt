use Rattle.std.proofs.Common.{[], sym, ap, ◌∙◌, drop}
use Rattle.std.proofs.lemmas.Bool.{MatchBool-at_false}
use Rattle.kt_cells.specs.Reading.{table_rows}
use Rattle.kt_cells.specs.Texts.{text_value}
use Rattle.kt_cells.proofs.text_rows.read_behind_heading.Goals as goal

-- a text without a record has no row
pub returns-then-not-branch-clause-value : goal.returns-then-not-branch-clause-value
unfolding table_rows
returns-then-not-branch-clause-value g c =
    let none = MatchBool-at_false _ _ c.if-not-branch.true c.in_ok-next_record.ensures.next in
    record {
      rows = [];
      are_read = ap (λ rows. table_rows text_value c.args.ordered 1 c.args.kinds.now 0 1 (drop 1 rows)) (sym c.reader_of-reader.ensures.all ∙ none);
      are_taken = c.requires.fresh;
    }
