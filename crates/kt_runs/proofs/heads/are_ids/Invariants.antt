use Rattle.std.proofs.Common.{◌≡◌, map, take}
use Rattle.kt_runs.specs.declared.heads.LossHead.{LossHead}
use Rattle.kt_runs.proofs.heads.are_ids.Given as goal

abbrev pub invariant-loop-at : goal.invariant-loop-at
invariant-loop-at l = map (λ (head : LossHead). head.id) (take l.at l.heads) ≡ take l.at l.ids
