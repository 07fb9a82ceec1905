use Rattle.std.proofs.Common.{◌≡◌, length}
use Rattle.kt_text.specs.Trimming.{without_front, is_blank}
use Rattle.kt_text.proofs.trimming.without_leading_blanks.Given as goal

abbrev pub invariant-loop-rest : goal.invariant-loop-rest
invariant-loop-rest l = without_front is_blank l.rest ≡ without_front is_blank l.fn.text

abbrev pub decreases-loop-rest : goal.decreases-loop-rest
decreases-loop-rest l = length l.rest
