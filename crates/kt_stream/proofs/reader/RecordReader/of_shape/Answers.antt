use Rattle.kt_stream.proofs.Representing.{fresh, fresh_dry}
use Rattle.kt_stream.proofs.reader.RecordReader.of_shape.Goals as goal

pub returns-clause-value : goal.returns-clause-value
returns-clause-value g c = rw c.header_before.ensures (fresh g.E.Entry.form c.args.shape _ _)

pub returns-clause-rests : goal.returns-clause-rests
returns-clause-rests g c = rw c.header_before.ensures (fresh_dry g.E.Entry.form c.args.shape _ _ c.laws.ensures.value.nothing)
