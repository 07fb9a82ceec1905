use Rattle.std.proofs.Common.{◌<◌, length, false, drop, inl, inr, refl, rules}
use Rattle.kt_claims.specs.Arrivals.{IsMade}
use Rattle.kt_part.specs.Claimed.{WantsMemory}
use Rattle.kt_part.proofs.GatherLemmas.{begun}
use Rattle.kt_part.proofs.RoundLemmas.{claimed-after, ends-with, none-yet}
use Rattle.kt_part.proofs.round.run_round.Goals as goal

pub gather-reorder-requires-clause-begun : goal.gather-reorder-requires-clause-begun
gather-reorder-requires-clause-begun g c κs within =
    let arms = c.in-Ok.lanes.arms in let ends = c.in-Ok.lanes.ends in let now = c.run_beside.new.arms in let now' = c.run_beside.new.ends in
    begun (IsMade (g.W.Work.gives c.args.work.now) (g.W.Work.lacks c.args.work.now)) c.args.count c.args.claims.now c.args.workers arms.items c.as_mut_slice.result.now now (drop (length now) arms.items) ends.items c.as_mut_slice-2.result.now now' (drop (length now') ends.items) arms.len ends.len
    c.make_lanes.new.pass (record { reorder = c.in-Ok-new.reorder; is_spoiled = false; arrived = 0 }) c.run_beside.new.inbox c.in-Ok.ensures.lanes c.in-Ok.ensures.given c.as_mut_slice.ensures.value c.as_mut_slice-2.ensures.value
    (search rules) (search rules) (search rules) (search rules) c.run_beside.ensures.worked c.run_beside.ensures.same c.run_beside.ensures.come c.in-Ok-new.ensures.next refl c.in-Ok-new.ensures.empty

pub returns-clause-round : goal.returns-clause-round
returns-clause-round g c start before stand =
    ends-with (g.W.Work.gives c.args.work.now) (λ k. (k < c.args.count) × g.W.Work.lacks c.args.work.now k) (WantsMemory (g.W.Work.lacks c.args.work.now) c.args.workers c.args.count c.gather-reorder.new.pass c.args.fold.now c.fold_held.new.fold)
    (g.F.Fold.stands start c.fold_held.new.fold) (g.F.Fold.stopped start c.fold_held.new.fold) before c.args.count c.fold_held.result
    (λ taken wanting. inr (record { claimed = c.gather-reorder.ensures.claimed; below = wanting.0; lacking = wanting.1 }))
    (c.fold_held.ensures.round start before stand)

pub returns-clause-fits : goal.returns-clause-fits
returns-clause-fits g c = c.fold_held.ensures.fits

pub returns-clause-claims : goal.returns-clause-claims
returns-clause-claims g c = claimed-after c.args.workers c.args.count c.gather-reorder.new.pass c.fold_held.result c.gather-reorder.ensures.claimed

pub returns-in_default-clause-round : goal.returns-in_default-clause-round
returns-in_default-clause-round g c start before stand =
    none-yet (g.W.Work.gives c.args.work.now) before (WantsMemory (g.W.Work.lacks c.args.work.now) c.args.workers c.args.count c.make_lanes.new.pass c.args.fold.now c.args.fold.now) (g.F.Fold.stands start c.args.fold.now) c.args.count stand
    (inl (record { none_claimed = c.in_default.ensures.none; none_taken = refl; same = refl }))

pub returns-in_default-clause-claims : goal.returns-in_default-clause-claims
returns-in_default-clause-claims g c = inl c.in_default.ensures.none

pub returns-in_default-new-clause-round : goal.returns-in_default-new-clause-round
returns-in_default-new-clause-round g c start before stand =
    none-yet (g.W.Work.gives c.args.work.now) before (WantsMemory (g.W.Work.lacks c.args.work.now) c.args.workers c.args.count c.make_lanes.new.pass c.args.fold.now c.args.fold.now) (g.F.Fold.stands start c.args.fold.now) c.args.count stand
    (inl (record { none_claimed = c.in-Ok.ensures.given.none; none_taken = refl; same = refl }))

pub returns-in_default-new-clause-claims : goal.returns-in_default-new-clause-claims
returns-in_default-new-clause-claims g c = inl c.in-Ok.ensures.given.none
