use Rattle.std.proofs.Common.{◌+◌, ◌∙◌, ℕ, ap, arith}
use Rattle.kt_money.specs.Sharing.{share_of}
use Rattle.kt_fmtree.proofs.GivingLemmas.{sharing-begins, sharing-ends, sharing-fits, sharing-goes}
use Rattle.kt_fmtree.proofs.giving.push_shares.Goals as goal

pub loop-at-init : goal.loop-at-init
loop-at-init c = sharing-begins c.args.children.now c.args.start c.args.amount c.args.parts.now.items c.added-all.result c.weight-weights.result _ _ _ c.added-all.ensures.value c.weight-weights.ensures.value c.due.ensures.value c.from.ensures c.new-sharing.ensures.value

pub next_share-share-requires : goal.next_share-share-requires
next_share-share-requires c =
    omega (arith, c.weight.ensures.value, sharing-fits c.args.children.now c.args.start c.args.amount c.args.parts.now.items c.loop-at.parts.items c.added-all.result.loss c.weight-weights.result c.loop-at.sharing c.loop-at.at (record { loss = 0; ded = 0; over = 0; kept = 0 }) c.loop-at-test.true c.loop-at.invariant)

pub loop-at-preserved : goal.loop-at-preserved
loop-at-preserved c =
    let sharing = c.loop-at.sharing in
    sharing-goes c.args.children.now c.args.start c.args.amount c.args.parts.now.items c.loop-at.parts.items c.push.new.self.items c.added-all.result.loss c.weight-weights.result sharing c.next_share-share.new.sharing c.loop-at.at c.next_share-share.result _ c.loop-at-test.true c.loop-at.invariant
    (c.next_share-share.ensures.value ∙ ap (share_of sharing.total sharing.weights sharing.given) c.weight.ensures.value)
    (c.next_share-share.ensures.given ∙ ap (λ (n : ℕ). record sharing { given = sharing.given + n }) c.weight.ensures.value) c.in_ok-push.ensures.items

pub returns : goal.returns
returns c = record {
  value = sharing-ends c.args.children.now c.args.start c.args.amount c.args.parts.now.items c.loop-at.parts.items c.added-all.result.loss c.weight-weights.result c.loop-at.sharing c.loop-at.at c.loop-at-test.false c.loop-at.invariant;
}
