use Rattle.kt_stream.specs.Summary.{summary_bytes, summary_shape}
use Rattle.kt_stream.proofs.Summaries.{summary_lawful}
use Rattle.kt_stream.proofs.write.put_summary.Goals as goal

pub returns-clause-ok : goal.returns-clause-ok
unfolding summary_bytes
returns-clause-ok c = rw (c.write_u64.ensures, c.write_u32-2.ensures, c.write_u32.ensures, c.as_slice.ensures.value) at c.put_pair_record.ensures.ok

pub returns-clause-back : goal.returns-clause-back
returns-clause-back c = λ samples rest at few is. summary_lawful.back summary_shape samples c.args.entry.now rest at few is
