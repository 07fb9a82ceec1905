-- The items so far are appended.
use Rattle.std.proofs.Common.{◌≡◌, ◌++◌, map, take}
use Rattle.kt_gul.proofs.struck.push_items.Given as goal

abbrev pub invariant-loop-item : goal.invariant-loop-item
invariant-loop-item l = l.struck.items ≡ l.initial.struck.items ++ map (λ item. record { item = item; cdf = l.cdf; moments = l.moments }) (take l.item-index l.items)
