use Rattle.std.proofs.Common.{◌≡◌, ◌+◌, ◌%◌, ◌<◌, ◌^◌, length, slice_index, slice_index_or, arith, refl}
use Rattle.kt_lanes.specs.LaneLaws.{written-more, written-start}
use Rattle.kt_sum.proofs.totals.add_sums.Goals as goal

pub loop-place-init : goal.loop-place-init
loop-place-init c = λ fits. written-start (length c.args.total.now) (λ k. slice_index c.args.total.now k + slice_index c.args.sums.now k) (slice_index c.args.total.now) c.args.total.now refl (λ j below. refl)

pub loop-place-preserved : goal.loop-place-preserved
loop-place-preserved c = λ fits.
    let total = c.args.total.now in
    let sums = c.args.sums.now in
    let place = c.loop-place.place in
    let now = c.loop-place.total in
    let inside : place < length total = omega (arith, c.loop-place-test.true, c.requires.width) in
    let so_far = c.loop-place.invariant fits in
    let sum : (slice_index_or now place 0 + slice_index_or sums place 0) % 2 ^ 64 ≡ slice_index total place + slice_index sums place = omega (arith, fits place inside, so_far.left place (omega arith) inside) in
    written-more (length total) place (λ k. slice_index total k + slice_index sums k) (slice_index total) now _ inside so_far sum

pub returns-clause-value : goal.returns-clause-value
returns-clause-value c = λ fits.
    let written = c.loop-place.invariant fits in
    record { width_is = written.wide; each = λ k below. written.done k (omega (arith, below, c.loop-place-test.false, c.requires.width)) }
