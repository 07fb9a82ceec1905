use Rattle.std.proofs.Common.{◌∙◌, ◌*◌, ◌++◌, length, ap, sym, subst}
use Rattle.kt_lanes.specs.Lanes.{AreWide}
use Rattle.kt_lanes.specs.SideBySide.{cut}
use Rattle.kt_lanes.proofs.CutLemmas.{cut-both, both-long}
use Rattle.kt_lanes.proofs.lanes.Lanes.append.Goals as goal

pub invariant_of-self-2 : goal.invariant_of-self-2
invariant_of-self-2 c =
    let kept = c.self.inside in
    let more = c.more.inside in
    let all = c.in_ok-extend_from_slice.ensures.items ∙ ap (λ back. kept.amounts.items ++ back) c.deref.ensures.value in
    ap length all
    ∙ (both-long c.args.width kept.width more.width kept.count more.count kept.amounts.items more.amounts.items c.self.invariant (subst (AreWide c.args.width) (sym c.self.view_is) c.requires.wide) c.more.invariant (subst (AreWide c.args.width) (sym c.more.view_is) c.requires.more)
    ∙ ap (λ n. c.args.width * n) (sym c.in_ok-count.ensures.value))

pub returns-clause-ok : goal.returns-clause-ok
returns-clause-ok c =
    let kept = c.self.inside in
    let more = c.more.inside in
    let all = c.in_ok-extend_from_slice.ensures.items ∙ ap (λ back. kept.amounts.items ++ back) c.deref.ensures.value in
    ap (cut c.args.width c.in_ok-count.count) all
    ∙ (ap (λ n. cut c.args.width n (kept.amounts.items ++ more.amounts.items)) c.in_ok-count.ensures.value
    ∙ (cut-both c.args.width kept.width more.width kept.count more.count kept.amounts.items more.amounts.items c.self.invariant (subst (AreWide c.args.width) (sym c.self.view_is) c.requires.wide) c.more.invariant (subst (AreWide c.args.width) (sym c.more.view_is) c.requires.more)
    ∙ (ap (λ lanes. lanes ++ cut more.width more.count more.amounts.items) c.self.view_is ∙ ap (λ lanes. c.args.self.now ++ lanes) c.more.view_is)))
