use Rattle.kt_stream.specs.Bins.{cdf_bytes}
use Rattle.kt_stream.proofs.Distributions.{cdf_back}
use Rattle.kt_stream.proofs.write.put_cdf.Goals as goal

pub returns-clause-ok : goal.returns-clause-ok
unfolding cdf_bytes
returns-clause-ok c = rw (c.write_u64.ensures, c.write_u32-3.ensures, c.write_u32-2.ensures, c.write_u32.ensures, c.as_slice-bins.ensures.value) at c.put_bin_record.ensures.ok

pub returns-clause-back : goal.returns-clause-back
returns-clause-back c = λ most rest at is. cdf_back most c.args.cdf.now rest at is
