use Rattle.std.proofs.Common.{◌++◌, drop}
use Rattle.kt_stream.specs.Bins.{bins_bytes}
use Rattle.kt_stream.proofs.Writing.{Puts}
use Rattle.kt_stream.proofs.write.put_fields_and_bins.Given as goal

-- the fields and so many bins were written
abbrev pub invariant-loop-bin : goal.invariant-loop-bin
invariant-loop-bin l = Puts l.fn.out (l.fields ++ bins_bytes l.bins) (bins_bytes (drop l.bin-index l.bins)) l.out
