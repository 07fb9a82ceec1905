-- The items so far are of the coverage.
use Rattle.std.proofs.Common.{◌≡◌, ℕ, ◌<◌, ◌≤◌, slice_index_or}
use Rattle.kt_gul.specs.declared.struck.StruckItem.{StruckItem}
use Rattle.kt_gul.proofs.event.group_end.Given as goal

abbrev pub invariant-loop-end : goal.invariant-loop-end
invariant-loop-end l = (k : ℕ) (d : StruckItem) → l.start ≤ k → k < l.end → (slice_index_or l.struck k d).item.coverage_id ≡ l.coverage
