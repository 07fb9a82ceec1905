use Rattle.std.proofs.Common.{ℕ, ◌+◌, Some, None, ◌++◌, ap, subst, sym, ◌∙◌, le_refl, arith}
use Rattle.kt_claims.specs.Arrivals.{IsHeld, IsMade}
use Rattle.kt_part.proofs.GatherLemmas.{next-held, next-made}
use Rattle.kt_part.proofs.RoundLemmas.{one-more}
use Rattle.kt_part.proofs.gather.fold_held.Goals as goal

pub unreachable-requires : goal.unreachable-requires
unreachable-requires g c =
    let k = c.loop-k.k in
    next-held (IsMade (g.W.Work.gives c.args._work.now) (g.W.Work.lacks c.args._work.now) k) c.loop-k.reorder k None c.loop-k.invariant.next c.in_default.ensures.none.0 (c.loop-k.invariant.held k (le_refl k) c.loop-k-test.true)

pub take-requires : goal.take-requires
take-requires g c =
    let k = c.loop-k.k in let block = c.in-Some-held.block in
    let given = next-made (IsMade (g.W.Work.gives c.args._work.now) (g.W.Work.lacks c.args._work.now) k) c.loop-k.reorder k c.in-Some.held (Some block) c.loop-k.invariant.next c.in-Some.ensures.some.0 c.in-Some-held.is (c.loop-k.invariant.held k (le_refl k) c.loop-k-test.true) in
    c.loop-k.invariant.fits block (c.requires.fits k block c.loop-k-test.true given)

pub loop-k-preserved : goal.loop-k-preserved
loop-k-preserved g c =
    let k = c.loop-k.k in let block = c.in-Some-held.block in
    let given = next-made (IsMade (g.W.Work.gives c.args._work.now) (g.W.Work.lacks c.args._work.now) k) c.loop-k.reorder k c.in-Some.held (Some block) c.loop-k.invariant.next c.in-Some.ensures.some.0 c.in-Some-held.is (c.loop-k.invariant.held k (le_refl k) c.loop-k-test.true) in record {
      folded = λ start before stands.
          let folded = c.loop-k.invariant.folded start before stands in
          one-more (g.W.Work.gives c.args._work.now) before (g.F.Fold.stands start c.loop-k.fold) (g.F.Fold.stands start c.take.new.self) k folded block given (c.in_default-take.ensures.takes start (before ++ folded.blocks) folded.stand);
      fits = λ other fits. c.take.ensures.fits other (c.loop-k.invariant.fits other fits);
      next = c.in-Some.ensures.some.1 ∙ ap (λ (n : ℕ). n + 1) c.loop-k.invariant.next;
      held = λ number above below. subst (IsHeld (IsMade (g.W.Work.gives c.args._work.now) (g.W.Work.lacks c.args._work.now) number)) (sym (c.in-Some.ensures.later number (let next = c.loop-k.invariant.next in omega arith))) (c.loop-k.invariant.held number (omega arith) below);
    }
