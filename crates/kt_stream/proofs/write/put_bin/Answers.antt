use Rattle.kt_stream.proofs.write.put_bin.Goals as goal

pub returns-clause-ok : goal.returns-clause-ok
returns-clause-ok c = rw (c.write_u32.ensures, c.write_u64.ensures) at c.append.ensures.ok
