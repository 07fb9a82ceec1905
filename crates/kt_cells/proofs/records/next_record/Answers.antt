use Rattle.std.proofs.Common.{arith}
use Rattle.std.proofs.lemmas.List.{take_rest}
use Rattle.std.proofs.lemmas.Result.{err_from_is_err_and}
use Rattle.kt_cells.proofs.RecordLemmas.{record-good, record-bad, record-cut}
use Rattle.kt_cells.proofs.records.next_record.Goals as goal

pub returns-then-bytes-width-clause-refused : goal.returns-then-bytes-width-clause-refused
returns-then-bytes-width-clause-refused g c = record-cut c.args.before c.args.first c.args.kinds.now c.args.bytes.now c.requires.some (omega arith)

pub returns-in_err-read_record-clause-refused : goal.returns-in_err-read_record-clause-refused
returns-in_err-read_record-clause-refused g c =
    let p = err_from_is_err_and c.from_residual.result c.from_residual.ensures.1 in
    rw (p.1, p.2) (record-bad c.args.before c.args.first c.args.kinds.now c.args.bytes.now (omega arith) (omega arith) _ c.in_err-read_record.ensures.refused)

pub returns-clause-next : goal.returns-clause-next
returns-clause-next g c =
    rw (take_rest, c.requires.width) (record-good c.args.before c.args.first c.args.kinds.now c.args.bytes.now (omega arith) (omega arith) c.read_record.new.values c.in_ok-read_record.ensures.ok)
