-- One loss more.
use Rattle.std.proofs.Common.{◌≡◌, length, slice_index, arith}
use Rattle.std.proofs.lemmas.List.Elements.{All-from_get_or}
use Rattle.kt_ranks.specs.RankedLosses.{ranked_loss}
use Rattle.kt_ranks.specs.SelectLaws.{put_more, past_more}
use Rattle.kt_ranks.proofs.ranks.put_losses.Goals as goal
use Rattle.kt_ranks.proofs.ranks.put_losses.Goals.{then-place-values, else-place-values}

pub loop-index-preserved : goal.loop-index-preserved
loop-index-preserved c = λ whole same is.
    let long : length whole ≡ length c.loop-index.values = omega (arith, same, c.loop-index.auto.values, c.if-place-values.auto.values) in
    let done = c.loop-index.invariant whole long is in
    elim c.if-place-values.branch [
      | then-place-values w ↦ rw w.values-is (put_more whole c.loop-index.values c.args.ranks.now c.args.losses.now c.loop-index.index is (omega (arith, c.requires, c.loop-index-test.true)) w.if-place-values.true done)
      | else-place-values w ↦ rw w.values-is (past_more whole c.loop-index.values c.args.ranks.now c.loop-index.index long w.if-place-values.false done)
    ]

pub returns : goal.returns
returns c = λ whole same is. All-from_get_or (λ rank. slice_index c.loop-index.values rank ≡ ranked_loss whole rank) c.args.ranks.now 0 (λ k inside. c.loop-index.invariant whole (omega (arith, same, c.loop-index.auto.values)) is k (omega (arith, inside, c.requires, c.loop-index-test.false, c.loop-index.auto.index-end)))
