use Rattle.std.proofs.Common.{refl}
use Rattle.kt_stream.specs.Summary.{summary_bytes}
use Rattle.kt_runs.proofs.byte_record.summary_front.Goals as goal

pub returns : goal.returns
unfolding summary_bytes
returns c = rw (c.write_u64.ensures, c.write_u32-2.ensures, c.write_u32.ensures) (record { front = λ pairs. refl })
