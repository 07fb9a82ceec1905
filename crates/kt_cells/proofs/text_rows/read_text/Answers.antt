use Rattle.std.proofs.Common.{[], arith}
use Rattle.std.proofs.lemmas.List.{append-nil}
use Rattle.kt_cells.specs.Texts.{text_rows}
use Rattle.kt_cells.proofs.TextLemmas.{all-over, all-tells, ranges-given}
use Rattle.kt_cells.proofs.text_rows.read_text.Goals as goal

pub returns-in_default-clause-ranges : goal.returns-in_default-clause-ranges
returns-in_default-clause-ranges g c = ranges-given c.args.ordered c.args.kinds.now c.args.text.now c.read_behind_heading.result (omega (arith, c.told-kinds, c.requires.some))

pub returns-clause-value : goal.returns-clause-value
unfolding text_rows
returns-clause-value g c =
    all-over (g.S.RowSink.takes_to c.args.kinds.now) _ _ _ _ _ c.read_behind.result (rw (append-nil c.in-Some.rest.now, append-nil c.in_ok-front.front.rest.now, ← c.in-Some.ensures.rows) at (c.in_ok-front.ensures.value [])) c.read_behind.ensures.value c.requires.fresh

pub returns-clause-ranges : goal.returns-clause-ranges
returns-clause-ranges g c = ranges-given c.args.ordered c.args.kinds.now c.args.text.now c.read_behind.result (omega (arith, c.told-kinds, c.requires.some))

pub returns-clause-refused : goal.returns-clause-refused
unfolding text_rows
returns-clause-refused g c =
    all-tells _ _ c.read_behind.result (rw (append-nil c.in-Some.rest.now, append-nil c.in_ok-front.front.rest.now, ← c.in-Some.ensures.rows) at (c.in_ok-front.ensures.value [])) c.read_behind.ensures.refused
