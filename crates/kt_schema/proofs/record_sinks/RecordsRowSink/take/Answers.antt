use Rattle.kt_schema.proofs.SinkLemmas.{records-taken}
use Rattle.kt_schema.proofs.record_sinks.RecordsRowSink.take.Goals as goal

pub returns : goal.returns
returns g c = record {
  ok = λ start rows was. records-taken c.args.kinds.now start.out c.args.self.now.out _ rows c.args.row.now was c.in_ok-push_record.ensures.ok;
}
