use Rattle.std.proofs.Common.{◌≡◌, map, take}
use Rattle.kt_runs.specs.declared.heads.LossHead.{LossHead}
use Rattle.kt_runs.proofs.heads.turned_lanes.Given as goal

abbrev pub invariant-loop-head : goal.invariant-loop-head
invariant-loop-head l = l.places.items ≡ map (λ (head : LossHead). head.place) (take l.head-index l.heads)
