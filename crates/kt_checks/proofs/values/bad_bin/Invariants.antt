use Rattle.std.proofs.Common.{◌≡◌, ◌+◌, ◌||◌, not, nat_eq, length, take, drop}
use Rattle.std.specs.Prelude.{nat_lt}
use Rattle.kt_keys.specs.FirstRow.{first_refused_after}
use Rattle.kt_checks.specs.TableChecks.{bad_bin_at}
use Rattle.kt_checks.proofs.values.bad_bin.Given as goal

abbrev pub invariant-loop-index : goal.invariant-loop-index
invariant-loop-index l =
    first_refused_after (λ earlier bin. not (nat_eq bin.bin_index (length earlier + 1)) || nat_lt bin.bin_to bin.bin_from) (take l.index l.bins) (drop l.index l.bins) ≡ bad_bin_at l.bins
