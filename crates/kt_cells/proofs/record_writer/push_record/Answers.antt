use Rattle.std.proofs.Common.{append_assoc, arith}
use Rattle.std.proofs.lemmas.List.{append-nil}
use Rattle.kt_rec.specs.declared.kind.Kind.TheVariants.{Id}
use Rattle.kt_cells.proofs.WritingLemmas.{record_bytes-more, record_bytes-end, more-piece}
use Rattle.kt_cells.proofs.record_writer.push_record.Goals as goal

pub loop-column-preserved : goal.loop-column-preserved
loop-column-preserved c =
    let written = rw c.width.ensures at c.in_ok-push_number.ensures.ok in
    let next = record_bytes-more c.args.kinds.now c.args.values.now c.loop-column.column Id c.loop-column-test.true c.requires in
    (rw (written, append_assoc c.loop-column.out, ← next) c.loop-column.invariant.0, more-piece c.args.out.now c.loop-column.out c.push_number.new.out _ c.loop-column.invariant.1 written)

pub returns-clause-ok : goal.returns-clause-ok
returns-clause-ok c = rw (record_bytes-end c.args.kinds.now c.args.values.now c.loop-column.column (omega arith), append-nil c.loop-column.out) at c.loop-column.invariant.0
