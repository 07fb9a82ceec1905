use Rattle.std.proofs.Common.{◌≡◌, length, arith}
use Rattle.std.proofs.lemmas.List.{append-nil}
use Rattle.std.proofs.Math.Seq.{drop-length}
use Rattle.kt_cells.specs.Lines.{rows_lines}
use Rattle.kt_schema.specs.Footprint.{indexed_rows}
use Rattle.kt_schema.proofs.FootprintLemmas.{indexed-more}
use Rattle.kt_schema.proofs.footprint.push_events.Goals as goal

pub loop-entry-preserved : goal.loop-entry-preserved
loop-entry-preserved c = λ rows are.
    indexed-more c.args.out.now c.loop-entry.out c.push_event.new.out rows c.args.index.now c.loop-entry.entry-index _ c.loop-entry-test.true (c.loop-entry.invariant rows are) (c.in-Ok.ensures.ok rows are)

pub returns-clause-ok : goal.returns-clause-ok
unfolding indexed_rows rows_lines
returns-clause-ok c = λ rows are.
    let done : c.loop-entry.entry-index ≡ length c.args.index.now = omega arith in
    rw (done, drop-length, append-nil) at (c.loop-entry.invariant rows are)
