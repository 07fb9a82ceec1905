-- Each pair has its place among the running values, and the sums stay within their types.
use Rattle.std.proofs.Common.{◌≡◌, true, false, inl, inr, refl, ◌<◌, length, take, slice_index_or, pos, arith, sym, ◌∙◌}
use Rattle.std.proofs.lemmas.List.{take_more}
use Rattle.kt_stream.specs.declared.entry.Pair.{Pair}
use Rattle.kt_elt.proofs.LossAtLemmas.{Below}
use Rattle.kt_elt.proofs.SampleLemmas.{samples_spread}
use Rattle.kt_elt.proofs.Seen.{seen_none, seen_mean, seen_deviation, seen_sample, seen_other, below_next, seen_room, sample_room}
use Rattle.kt_elt.proofs.moments.loss_moments.Goals as goal
use Rattle.kt_elt.proofs.moments.loss_moments.Goals.{then-is_sampled, else-is_sampled+in-Mean, else-is_sampled+in-Deviation, else-is_sampled+in-Sample}

pub loop-pair-init : goal.loop-pair-init
loop-pair-init c = seen_none c.args.samples

pub overflow_add-sum : goal.overflow_add-sum
overflow_add-sum c =
    let none : Pair = record { sidx = pos 0; loss = 0 } in
    let room = sample_room c.args.samples c.loop-pair.pair-index c.args.pairs.now none _ _ _ _
    c.requires (omega arith) c.loop-pair.invariant (c.if-is_sampled.ensures.value.0 refl) in
    omega (arith, room.0)

pub overflow_add-squares : goal.overflow_add-squares
overflow_add-squares c =
    let none : Pair = record { sidx = pos 0; loss = 0 } in
    let room = sample_room c.args.samples c.loop-pair.pair-index c.args.pairs.now none _ _ _ _
    c.requires (omega arith) c.loop-pair.invariant (c.if-is_sampled.ensures.value.0 refl) in
    rw (c.from.ensures, c.from-then-is_sampled.ensures) (omega (arith, room.1))

pub loop-pair-preserved : goal.loop-pair-preserved
loop-pair-preserved c =
    let none : Pair = record { sidx = pos 0; loss = 0 } in
    let i = c.loop-pair.pair-index in
    let pairs = c.args.pairs.now in
    let inside : i < length pairs = omega arith in
    let below : Below (slice_index_or pairs i none).sidx (take i pairs) = below_next pairs i none c.requires.rising inside in
    let seen = c.loop-pair.invariant in
    rw (take_more pairs i none inside) (elim c.if-is_sampled.branch [
      | then-is_sampled w ↦ rw (w.mean-is, w.sd-is, w.sum-is, w.squares-is) (rw (w.from.ensures, w.from-then-is_sampled.ensures) (seen_sample _ _ _ _ _ _ _ seen below (w.if-is_sampled.ensures.value.0 refl) (c.requires.within i none inside)))
      | else-is_sampled+in-Mean w ↦ rw (w.mean-is, w.sd-is, w.sum-is, w.squares-is) (seen_mean _ _ _ _ _ _ _ seen below (sym w.of_pair.ensures.value ∙ w.in-Mean.is))
      | else-is_sampled+in-Deviation w ↦ rw (w.mean-is, w.sd-is, w.sum-is, w.squares-is) (seen_deviation _ _ _ _ _ _ _ seen below (sym w.of_pair.ensures.value ∙ w.in-Deviation.is))
      | else-is_sampled+in-Sample w ↦ rw (w.mean-is, w.sd-is, w.sum-is, w.squares-is) (seen_other _ _ _ _ _ _ _ seen (elim w.in-Sample.is [
        | inl sample ↦ let never : false ≡ true = w.if-is_sampled.ensures.value.1 (sym w.of_pair.ensures.value ∙ sample) in absurd cc
        | inr other ↦ sym w.of_pair.ensures.value ∙ other
      ]))
    ])

pub mean_sd-requires-clause-total : goal.mean_sd-requires-clause-total
mean_sd-requires-clause-total c =
    let room = seen_room c.args.samples c.loop-pair.pair-index c.args.pairs.now _ _ _ _ c.loop-pair.invariant c.requires.losses in
    omega (arith, room.0)

pub mean_sd-requires-clause-squares : goal.mean_sd-requires-clause-squares
mean_sd-requires-clause-squares c =
    let room = seen_room c.args.samples c.loop-pair.pair-index c.args.pairs.now _ _ _ _ c.loop-pair.invariant c.requires.losses in
    omega (arith, room.1)

pub mean_sd-requires-clause-spread : goal.mean_sd-requires-clause-spread
mean_sd-requires-clause-spread c =
    let here = c.loop-pair.invariant in
    rw (c.from-3.ensures, c.from-2.ensures, here.total_is, here.squares_is)
    (samples_spread c.args.samples (take c.loop-pair.pair-index c.args.pairs.now))
