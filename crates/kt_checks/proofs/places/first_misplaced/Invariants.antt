use Rattle.std.proofs.Common.{◌≡◌, take, drop}
use Rattle.kt_keys.specs.FirstRow.{first_where, first_refused_after}
use Rattle.kt_checks.specs.TableChecks.{is_misplaced}
use Rattle.kt_checks.proofs.places.first_misplaced.Given as goal

abbrev pub invariant-loop-place : goal.invariant-loop-place
invariant-loop-place l =
    first_refused_after (λ _ row. is_misplaced l.file_size row) (take l.place l.index) (drop l.place l.index) ≡ first_where (is_misplaced l.file_size) l.index
