use Rattle.std.proofs.Common.{arith}
use Rattle.kt_rec.specs.Rows.{rows_of}
use Rattle.kt_load.proofs.TableLemmas.{reads-table, keeps-table, refuses-table}
use Rattle.kt_load.proofs.table.read_table.Goals as goal

-- src/table.rt:80:22
pub returns-in-Err-clause-refused : goal.returns-in-Err-clause-refused
returns-in-Err-clause-refused g c =
    let found = rw (c.as_slice.ensures.value, c.in_ok-name.ensures.value) at c.in-Ok.ensures.value in
    let front = rw (c.as_slice-2.ensures.value, c.in_ok-name.ensures.value, c.wanted.ensures, c.in-Ok.ensures.counts) at c.in_ok-bytes.ensures.value in
    let tells = rw c.as_slice-3.ensures.value at c.in-Err.ensures.refused in
    refuses-table _ c.args.id c.in-Ok.size _ (omega (arith, c.if-size-gt-FILE_LIMIT.false)) found front (rows_of c.args.tables.now) c.in-Err.stop c.of_table.result tells (rw c.in_ok-name.ensures.value at c.of_table.ensures)

-- src/table.rt:52:1
pub returns-clause-ok : goal.returns-clause-ok
returns-clause-ok g c =
    let found = rw (c.as_slice.ensures.value, c.in_ok-name.ensures.value) at c.in-Ok.ensures.value in
    let front = rw (c.as_slice-2.ensures.value, c.in_ok-name.ensures.value, c.wanted.ensures, c.in-Ok.ensures.counts) at c.in_ok-bytes.ensures.value in
    let loads = rw c.as_slice-3.ensures.value at c.in-Ok-read_bin.ensures.ok in
    reads-table _ c.args.id c.in-Ok.size _ (omega (arith, c.if-size-gt-FILE_LIMIT.false)) found front c.args.tables.now c.read_bin.new.into c.keep_size.new.tables loads c.keep_size.ensures

-- src/table.rt:52:1
pub returns-clause-keeps : goal.returns-clause-keeps
returns-clause-keeps g c = keeps-table c.args.id c.in-Ok.size c.as_slice-3.result.now c.args.tables.now c.read_bin.new.into c.keep_size.new.tables (record { stages = c.requires.stages; financial = c.requires.financial }) c.in-Ok-read_bin.ensures.ok c.keep_size.ensures
