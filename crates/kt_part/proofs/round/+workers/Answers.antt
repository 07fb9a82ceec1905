use Rattle.std.proofs.Common.{◌≡◌, List, ◌++◌, All, length, arith, subst, sym}
use Rattle.kt_claims.specs.Arrivals.{IsMade}
use Rattle.kt_part.specs.Lanes.{HasWorked, HaveWorked, IsReady}
use Rattle.kt_claims.specs.declared.inbox.Arm.{Arm}
use Rattle.kt_part.proofs.ListLemmas.{all-left, all-right, each-joined}
use Rattle.kt_part.proofs.round.+workers.Goals as goal

pub run_all-first_beside-requires-clause-one : goal.run_all-first_beside-requires-clause-one
run_all-first_beside-requires-clause-one g t c κs within = omega (arith, c.split_at_mut-front.ensures.front_len)

pub run_all-first_beside-requires-clause-first : goal.run_all-first_beside-requires-clause-first
run_all-first_beside-requires-clause-first g t c κs within =
    let front = c.split_at_mut-front.result.0.now in let others = c.split_at_mut-front.result.1.now in
    all-left (IsReady c.args.claims.now) front others (subst (All (IsReady c.args.claims.now)) c.split_at_mut-front.ensures.value c.requires.ready)

pub run_all-first_beside-requires-clause-ready : goal.run_all-first_beside-requires-clause-ready
run_all-first_beside-requires-clause-ready g t c κs within =
    let front = c.split_at_mut-front.result.0.now in let others = c.split_at_mut-front.result.1.now in
    all-right (IsReady c.args.claims.now) front others (subst (All (IsReady c.args.claims.now)) c.split_at_mut-front.ensures.value c.requires.ready)

pub run_all-returns : goal.run_all-returns
run_all-returns g t c =
    let front = c.split_at_mut-front.result.0.now in let others = c.split_at_mut-front.result.1.now in let now = c.first_beside.new in let made = IsMade (g.W.Work.gives c.args.work.now) (g.W.Work.lacks c.args.work.now) in
    let many : length now.front ≡ length front = c.first_beside.auto.front in
    subst (λ (arms : List (Arm g.row.W-Block.Denot)). HaveWorked c.args.claims.now made c.args.count arms (now.front ++ now.others)) (sym c.split_at_mut-front.ensures.value)
    (each-joined (HasWorked c.args.claims.now made c.args.count) front others now.front now.others many c.first_beside.ensures.first c.first_beside.ensures.worked)
