use Rattle.std.proofs.Common.{◌≡◌, length}
use Rattle.kt_text.specs.Trimming.{without_end, is_zero_digit}
use Rattle.kt_text.proofs.trimming.trim_zeros.Given as goal

abbrev pub invariant-loop-rest : goal.invariant-loop-rest
invariant-loop-rest l = without_end is_zero_digit l.rest ≡ without_end is_zero_digit l.fn.fraction

abbrev pub decreases-loop-rest : goal.decreases-loop-rest
decreases-loop-rest l = length l.rest
