use Rattle.std.proofs.Common.{◌≡◌, ◌+◌, ◌-◌, ◌%◌, ◌^◌, ◌<◌, ◌≤◌, length, arith, pos, subst, slice_index_or, slice_set, take, ℕ}
use Rattle.kt_runs.specs.Adding.{IsAdded}
use Rattle.kt_stream.specs.declared.entry.Pair.{Pair}
use Rattle.kt_runs.proofs.AddLemmas.{added_more, fits_more}
use Rattle.kt_runs.proofs.sums.add_pairs.Goals as goal

pub loop-pair-preserved : goal.loop-pair-preserved
loop-pair-preserved c = λ fits.
    let none : Pair = record { sidx = pos 0; loss = 0 } in
    let inside = c.requires.inside c.loop-pair.pair-index none c.loop-pair-test.true in
    let place = c.place_of.ensures in
    let sums = c.loop-pair.sums in
    let at = c.place_of.result - c.args.least in
    let low : c.args.least ≤ c.place_of.result = omega (arith, inside.low, place.value) in
    let high : c.place_of.result < c.args.least + length c.args.sums.now = omega (arith, inside.high, place.value) in
    let added = c.loop-pair.invariant fits in
    let sum = slice_index_or sums at 0 + (slice_index_or c.args.pairs.now c.loop-pair.pair-index none).loss in
    let fit = fits_more c.args.least c.args.pairs.now c.loop-pair.pair-index c.place_of.result none c.loop-pair-test.true low place.back c.args.sums.now sums added high fits in
    let small : sum ≡ sum % 2 ^ 64 = omega (arith, fit) in
    subst (λ (n : ℕ). IsAdded c.args.least c.args.sums.now (take (c.loop-pair.pair-index + 1) c.args.pairs.now) (slice_set sums at n)) small (added_more c.args.least c.args.pairs.now c.loop-pair.pair-index c.place_of.result none c.loop-pair-test.true low place.back c.args.sums.now sums added high)
