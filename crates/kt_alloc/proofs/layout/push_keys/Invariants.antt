use Rattle.std.proofs.Common.{◌≡◌, ◌++◌, map, take}
use Rattle.kt_alloc.proofs.layout.push_keys.Given as goal

abbrev pub invariant-loop-owner : goal.invariant-loop-owner
invariant-loop-owner l = l.keys.items ≡ l.fn.keys.items ++ map (λ owner. (owner, l.one.layer)) (take l.owner-index l.owners)
