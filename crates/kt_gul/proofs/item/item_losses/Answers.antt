use Rattle.std.proofs.Common.{◌≡◌, ◌≤◌, ◌^◌, ℕ, List, [], ◌∷◌, ◌++◌, ◌*◌, ◌+◌, length, map, ap, subst, ◌∙◌, arith}
use Rattle.std.specs.List.{range_with_len}
use Rattle.kt_tables.specs.Lookups.{random_place}
use Rattle.kt_gul.specs.GroundUp.{loss_by}
use Rattle.kt_gul.proofs.BoundLemmas.{loss_behind-le}
use Rattle.kt_damage.specs.ItemMoments.{damage_deviation}
use Rattle.kt_damage.proofs.StepLemmas.{deviation_few}
use Rattle.kt_gul.proofs.ItemLemmas.{made_first, sample_is, made_more}
use Rattle.kt_gul.proofs.item.item_losses.Goals as goal

pub loop-sample-preserved : goal.loop-sample-preserved
loop-sample-preserved c =
    let rows = c.args.portfolio.now.rows in
    let numbers = c.numbers_of-numbers.result.now in
    let made = c.loop-sample._sample in
    let here = c.loop-sample.invariant.made in
    let value = c.loss_at.ensures.value in
    let most = loss_behind-le c.args.tiv (c.random_at-random.result * 1000000) 0 0 rows.damage_bin_dict c.args.bins.now c.requires.ranges.ends (omega arith) in
    record {
      made = made_more c.args.losses.items (loss_by rows c.args.draw.event c.args.bins.now c.args.struck.now.item) (random_place (length numbers) c.args.draw.event c.args.struck.now.item.group_id) (length numbers) made _ _ _ _ c.loss_at.result here
          c.push_reserved-in-loop-sample.ensures.items
          (sample_is rows c.args.draw.event c.args.bins.now c.args.struck.now.item made _ _ numbers c.loop-sample.place c.random_at-random.result _ c.requires.value c.damage_bins-dictionary.ensures.value c.numbers_of-numbers.ensures.value here.place_is c.random_at-random.ensures.value value)
          (c.next_place-place.ensures.value c.args.draw.event c.args.struck.now.item.group_id made here.place_is)
          c.next_place-place.ensures.within
          (omega (arith, rw c.damage_bins-dictionary.ensures.value at value, most, c.requires.value, c.requires.ranges.value));
      room = omega (arith, c.loop-sample.invariant.room, c.loop-sample-test.true, c.push_reserved-in-loop-sample.ensures.len, c.push_reserved-in-loop-sample.ensures.capacity);
    }

pub loop-sample-init : goal.loop-sample-init
loop-sample-init c =
    let rows = c.args.portfolio.now.rows in
    let item = c.args.struck.now.item in
    let tiv = c.requires.value in
    let value : c.args.tiv ≤ 10 ^ 14 = omega (arith, tiv, c.requires.ranges.value) in
    let mean = c.requires.moments.mean_is c.args.tiv value in
    let deviation = c.requires.moments.deviation_is c.args.tiv value in
    let mean_loss = c.mean_loss.ensures.value in
    let deviation_loss = c.loss_deviation.ensures.value in
    let deviation_at : c.loss_deviation.result ≡ loss_by rows c.args.draw.event c.args.bins.now item 0 = cc in
    let mean_at : c.mean_loss.result ≡ loss_by rows c.args.draw.event c.args.bins.now item 1 = cc in
    record {
      made = made_first c.args.losses.items (loss_by rows c.args.draw.event c.args.bins.now item) (random_place (length c.numbers_of-numbers.result.now) c.args.draw.event item.group_id) (length c.numbers_of-numbers.result.now) _ _ c.loss_deviation.result c.mean_loss.result c.first_place-place.result
          (c.push_reserved.ensures.items ∙ ap (λ (losses : List ℕ). losses ++ c.loss_deviation.result ∷ []) c.reserve.ensures.items) c.push_reserved-2.ensures.items deviation_at mean_at c.first_place-place.ensures.value c.first_place-place.ensures.within (omega (arith, deviation_loss, deviation, deviation_few c.args.tiv (damage_deviation c.args.bins.now) value c.requires.moments.few)) (omega (arith, c.mean_loss.ensures.most, tiv, c.requires.ranges.value));
      room = omega (arith, c.in_ok-reserve.ensures.ok, c.push_reserved.ensures.len, c.push_reserved.ensures.capacity, c.push_reserved-2.ensures.len, c.push_reserved-2.ensures.capacity);
    }

pub random_at-random-requires : goal.random_at-random-requires
random_at-random-requires c = c.loop-sample.invariant.made.within

pub returns : goal.returns
returns c =
    let here = c.loop-sample.invariant.made in
    let last = c.loop-sample-test.false in
    let within = c.loop-sample.auto._sample-end in
    let all : c.loop-sample._sample ≡ c.args.draw.samples = omega arith in
    let loss = loss_by c.args.portfolio.now.rows c.args.draw.event c.args.bins.now c.args.struck.now.item in
    record {
      value = subst (λ (made : ℕ). c.loop-sample.losses.items ≡ c.args.losses.items ++ map loss (range_with_len 0 (made + 2))) all here.losses_are;
      most = λ place below. here.most place (omega arith);
    }
