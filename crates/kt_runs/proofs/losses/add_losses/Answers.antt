use Rattle.std.proofs.Common.{◌<◌, ◌+◌, ◌^◌, pos, refl, slice_index_or, sym, subst, arith}
use Rattle.std.proofs.lemmas.List.Elements.{All-from_recursion}
use Rattle.kt_stream.specs.Pairs.{IsPair}
use Rattle.kt_stream.specs.declared.entry.Pair.{Pair}
use Rattle.kt_runs.proofs.LossLemmas.{losses-fit, losses-more, losses-same}
use Rattle.kt_runs.proofs.losses.add_losses.Goals as goal
use Rattle.kt_runs.proofs.losses.add_losses.Goals.{then-place-gt-FIRST, else-place-gt-FIRST}

pub overflow_add-lane : goal.overflow_add-lane
overflow_add-lane c =
    let none : Pair = record { sidx = pos 0; loss = 0 } in
    let i = c.loop-pair.pair-index in
    let pair = slice_index_or c.args.pairs.now i none in
    let is = (All-from_recursion (IsPair c.args.samples) c.args.pairs.now c.requires.pairs i none c.loop-pair-test.true).sidx in
    let place = c.place_of-place in
    let fits = losses-fit c.args.samples place.result pair is place.ensures.value place.ensures.back c.args.pairs.now i none c.loop-pair-test.true refl c.args.lane.now c.loop-pair.lane c.loop-pair.invariant c.if-place-gt-FIRST.true c.requires.few in
    record { fits = subst (λ n. slice_index_or c.loop-pair.lane n 0 + pair.loss < 2 ^ 64) (sym c.saturating_sub.ensures) fits }

pub loop-pair-preserved : goal.loop-pair-preserved
loop-pair-preserved c =
    let none : Pair = record { sidx = pos 0; loss = 0 } in
    let i = c.loop-pair.pair-index in
    let pair = slice_index_or c.args.pairs.now i none in
    let is = (All-from_recursion (IsPair c.args.samples) c.args.pairs.now c.requires.pairs i none c.loop-pair-test.true).sidx in
    let place = c.place_of-place in
    elim c.if-place-gt-FIRST.branch [
      | then-place-gt-FIRST w ↦ rw (w.lane-is, w.saturating_sub.ensures) (losses-more c.args.samples place.result pair is place.ensures.value place.ensures.back c.args.pairs.now i none c.loop-pair-test.true refl c.args.lane.now c.loop-pair.lane c.loop-pair.invariant w.if-place-gt-FIRST.true)
      | else-place-gt-FIRST w ↦ rw (w.lane-is) (losses-same c.args.samples place.result pair is place.ensures.value place.ensures.back c.args.pairs.now i none c.loop-pair-test.true refl c.args.lane.now c.loop-pair.lane c.loop-pair.invariant (omega (arith, w.if-place-gt-FIRST.false)))
    ]
