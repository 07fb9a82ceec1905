-- The bytes so far are those of the pairs of the places so far.
use Rattle.std.proofs.Common.{slice_index}
use Rattle.kt_gul.proofs.PairLemmas.{IsSpelled}
use Rattle.kt_gul.proofs.pairs.write_row.Given as goal

abbrev pub invariant-loop-place : goal.invariant-loop-place
invariant-loop-place l = IsSpelled (λ place. slice_index l.row place) l.place l.used l.bytes
