use Rattle.std.proofs.Common.{◌++◌, drop}
use Rattle.kt_stream.specs.Pairs.{pairs_bytes}
use Rattle.kt_stream.proofs.Writing.{Puts}
use Rattle.kt_stream.proofs.write.put_fields_and_pairs.Given as goal

-- the fields and so many pairs were written
abbrev pub invariant-loop-pair : goal.invariant-loop-pair
invariant-loop-pair l = Puts l.fn.out (l.fields ++ pairs_bytes l.pairs) (pairs_bytes (drop l.pair-index l.pairs)) l.out
