use Rattle.std.proofs.Common.{length}
use Rattle.kt_stream.specs.Reader.{held}
use Rattle.kt_loop.proofs.RecordReading.{HasPassed}
use Rattle.kt_loop.proofs.record_reader.read_records.Given as goal

-- the records that were read so far
abbrev pub invariant-records : goal.invariant-records
invariant-records g l = HasPassed g.E.Entry.form l.fn.reader l.reader

abbrev pub decreases-records : goal.decreases-records
decreases-records g l = length (held g.E.Entry.form l.reader)
