use Rattle.std.proofs.Common.{◌∙◌, ◌*◌, ◌++◌, ◌∷◌, [], length, ap, sym, subst}
use Rattle.kt_lanes.specs.Lanes.{AreWide}
use Rattle.kt_lanes.specs.SideBySide.{cut}
use Rattle.kt_lanes.proofs.CutLemmas.{cut-push, push-long}
use Rattle.kt_lanes.proofs.lanes.Lanes.push.Goals as goal

pub invariant_of-self-2 : goal.invariant_of-self-2
invariant_of-self-2 c =
    let kept = c.self.inside in
    let lane = c.args.lane.now in
    let wide = subst (AreWide (length lane)) (sym c.self.view_is) c.requires.wide in
    ap length c.in_ok-extend_from_slice.ensures.items ∙ (push-long kept.width kept.count kept.amounts.items lane c.self.invariant wide ∙ ap (λ n. length lane * n) (sym c.in_ok-count.ensures.value))

pub returns-clause-ok : goal.returns-clause-ok
returns-clause-ok c =
    let kept = c.self.inside in
    let lane = c.args.lane.now in
    let wide = subst (AreWide (length lane)) (sym c.self.view_is) c.requires.wide in
    ap (cut (length lane) c.in_ok-count.count) c.in_ok-extend_from_slice.ensures.items
    ∙ (ap (λ n. cut (length lane) n (kept.amounts.items ++ lane)) c.in_ok-count.ensures.value
    ∙ (cut-push kept.width kept.count kept.amounts.items lane c.self.invariant wide ∙ ap (λ lanes. lanes ++ lane ∷ []) c.self.view_is))
