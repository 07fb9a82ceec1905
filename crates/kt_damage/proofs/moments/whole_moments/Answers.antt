use Rattle.std.proofs.Common.{◌≡◌, List, length, drop, get_or, arith, subst, ◌∙◌, ◌<◌, ◌+◌, ◌-◌, ◌*◌}
use Rattle.std.proofs.lemmas.Nat.{mul-le}
use Rattle.std.proofs.lemmas.List.{drop_more}
use Rattle.kt_stream.specs.declared.entry.Bin.{Bin}
use Rattle.kt_money.specs.Rounding.{root}
use Rattle.kt_damage.specs.ItemMoments.{means_behind, squares_behind}
use Rattle.kt_damage.specs.MomentSums.{AreSums}
use Rattle.kt_damage.proofs.MomentLemmas.{next_within, sums_done, sums_more}
use Rattle.kt_damage.proofs.moments.whole_moments.Goals as goal

pub loop-bin-preserved : goal.loop-bin-preserved
loop-bin-preserved c =
    let none : Bin = record { prob_to = 0; mean = 0 } in
    let bins = c.args.bins.now in
    let i = c.loop-bin.bin-index in
    let inside : i < length bins = c.loop-bin-test.true in
    let here = subst (λ (rest : List Bin). AreSums bins rest c.loop-bin.before c.loop-bin.means c.loop-bin.squares) (drop_more bins i none inside) c.loop-bin.invariant in
    rw (c.from-in-loop-bin.ensures, c.from-in-loop-bin-2.ensures, c.from.ensures) (sums_more bins (get_or bins i none) (drop (i + 1) bins) c.loop-bin.before c.loop-bin.means c.loop-bin.squares here)

pub overflow_sub-part : goal.overflow_sub-part
overflow_sub-part c =
    let none : Bin = record { prob_to = 0; mean = 0 } in
    let next = next_within c.args.bins.now c.loop-bin.bin-index c.loop-bin.before c.loop-bin.means c.loop-bin.squares none c.loop-bin-test.true c.loop-bin.invariant in
    next.0

pub overflow_mul-part : goal.overflow_mul-part
overflow_mul-part c =
    let none : Bin = record { prob_to = 0; mean = 0 } in
    let next = next_within c.args.bins.now c.loop-bin.bin-index c.loop-bin.before c.loop-bin.means c.loop-bin.squares none c.loop-bin-test.true c.loop-bin.invariant in
    let part = mul-le ((get_or c.args.bins.now c.loop-bin.bin-index none).prob_to - c.loop-bin.before) c.from.result 1002001000000 1000000 (omega (arith, next)) (omega (arith, next)) in
    omega arith

pub overflow_add-means : goal.overflow_add-means
overflow_add-means c =
    let none : Bin = record { prob_to = 0; mean = 0 } in
    let next = next_within c.args.bins.now c.loop-bin.bin-index c.loop-bin.before c.loop-bin.means c.loop-bin.squares none c.loop-bin-test.true c.loop-bin.invariant in
    let part = mul-le ((get_or c.args.bins.now c.loop-bin.bin-index none).prob_to - c.loop-bin.before) c.from.result 1002001000000 1000000 (omega (arith, next)) (omega (arith, next)) in
    omega arith

pub overflow_mul-squares : goal.overflow_mul-squares
overflow_mul-squares c =
    let none : Bin = record { prob_to = 0; mean = 0 } in
    let next = next_within c.args.bins.now c.loop-bin.bin-index c.loop-bin.before c.loop-bin.means c.loop-bin.squares none c.loop-bin-test.true c.loop-bin.invariant in
    let part = mul-le ((get_or c.args.bins.now c.loop-bin.bin-index none).prob_to - c.loop-bin.before) c.from.result 1002001000000 1000000 (omega (arith, next)) (omega (arith, next)) in
    let square = mul-le c.from-in-loop-bin.result c.from-in-loop-bin-2.result 1002001000000000000 1000000 (omega (arith, part)) (omega (arith, next)) in
    omega arith

pub overflow_add-squares : goal.overflow_add-squares
overflow_add-squares c =
    let none : Bin = record { prob_to = 0; mean = 0 } in
    let next = next_within c.args.bins.now c.loop-bin.bin-index c.loop-bin.before c.loop-bin.means c.loop-bin.squares none c.loop-bin-test.true c.loop-bin.invariant in
    let part = mul-le ((get_or c.args.bins.now c.loop-bin.bin-index none).prob_to - c.loop-bin.before) c.from.result 1002001000000 1000000 (omega (arith, next)) (omega (arith, next)) in
    let square = mul-le c.from-in-loop-bin.result c.from-in-loop-bin-2.result 1002001000000000000 1000000 (omega (arith, part)) (omega (arith, next)) in
    omega arith

pub deviation-requires-clause-means : goal.deviation-requires-clause-means
deviation-requires-clause-means c = omega (arith, c.loop-bin.invariant.means_within, c.loop-bin.invariant.whole)

pub deviation-requires-clause-squares : goal.deviation-requires-clause-squares
deviation-requires-clause-squares c = omega (arith, c.loop-bin.invariant.squares_within, c.loop-bin.invariant.whole)

pub returns-clause-mean : goal.returns-clause-mean
returns-clause-mean c =
    let all = sums_done c.args.bins.now c.loop-bin.bin-index c.loop-bin.before c.loop-bin.means c.loop-bin.squares c.loop-bin-test.false c.loop-bin.invariant in
    omega (arith, all.means_are)

pub returns-clause-deviation : goal.returns-clause-deviation
returns-clause-deviation c =
    let all = sums_done c.args.bins.now c.loop-bin.bin-index c.loop-bin.before c.loop-bin.means c.loop-bin.squares c.loop-bin-test.false c.loop-bin.invariant in
    let means : c.loop-bin.means ≡ means_behind 0 c.args.bins.now = omega (arith, all.means_are) in
    let squares : c.loop-bin.squares ≡ squares_behind 0 c.args.bins.now = omega (arith, all.squares_are) in
    c.deviation.ensures.value ∙ (λ j. root (squares j * 1000000000000 - means j * means j))
