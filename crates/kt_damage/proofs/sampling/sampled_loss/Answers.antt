use Rattle.std.proofs.Common.{◌*◌, ◌<◌, length, arith}
use Rattle.kt_rec.specs.declared.hazard.DamageBin.{DamageBin}
use Rattle.kt_stream.specs.declared.entry.Bin.{Bin}
use Rattle.kt_damage.proofs.SampleLemmas.{loss_behind-at, loss_behind-past, passed-from, found-from, damage_before-le, falls}
use Rattle.kt_damage.proofs.sampling.sampled_loss.Goals as goal

pub ppm_of-requires-clause-factor : goal.ppm_of-requires-clause-factor
ppm_of-requires-clause-factor c =
    let none : DamageBin = record { bin_index = 0; bin_from = 0; bin_to = 0; interpolation = 0; interval_type = 0 } in
    let few = c.requires.few in
    omega (arith, c.damage_before.ensures.value none, damage_before-le c.args.dictionary.now c.place_of-place.result none c.requires.ends (omega arith))

pub returns-then-place-bins : goal.returns-then-place-bins
returns-then-place-bins c =
    let none : DamageBin = record { bin_index = 0; bin_from = 0; bin_to = 0; interpolation = 0; interval_type = 0 } in
    let no_bin : Bin = record { prob_to = 0; mean = 0 } in
    let at_last = c.if-place-bins.true in
    let past = loss_behind-past c.args.tiv (c.from-number.result * 1000000) c.max.result 0 0 c.args.dictionary.now c.args.bins.now none no_bin c.max.ensures c.requires.few
    (λ j under. passed-from c.args.bins.now c.max.result c.place_of-place.result c.place_of-place.ensures.value no_bin j (omega arith)) in
    let part = c.ppm_of.ensures.value in
    let same = c.from-number.ensures in
    let damage = c.damage_before.ensures.value none in
    record { value = cc }

pub loss_in_bin-requires : goal.loss_in_bin-requires
loss_in_bin-requires c =
    let none : DamageBin = record { bin_index = 0; bin_from = 0; bin_to = 0; interpolation = 0; interval_type = 0 } in
    let no_bin : Bin = record { prob_to = 0; mean = 0 } in
    let within = c.place_of-place.ensures.within in
    let other = c.if-place-bins.false in
    let below : c.place_of-place.result < length c.args.bins.now = omega arith in
    rw (c.end_before-before.ensures.value no_bin)
    (falls c.args.tiv (c.from-number.result * 1000000) c.max.result c.args.dictionary.now c.args.bins.now c.place_of-place.result none no_bin c.requires c.max.ensures below
    (passed-from c.args.bins.now c.max.result c.place_of-place.result c.place_of-place.ensures.value no_bin)
    (found-from c.args.bins.now c.max.result c.place_of-place.result c.place_of-place.ensures.value no_bin below))

pub returns : goal.returns
returns c =
    let none : DamageBin = record { bin_index = 0; bin_from = 0; bin_to = 0; interpolation = 0; interval_type = 0 } in
    let no_bin : Bin = record { prob_to = 0; mean = 0 } in
    let within = c.place_of-place.ensures.within in
    let other = c.if-place-bins.false in
    let below : c.place_of-place.result < length c.args.bins.now = omega arith in
    let found = loss_behind-at c.args.tiv (c.from-number.result * 1000000) c.max.result 0 0 c.args.dictionary.now c.args.bins.now c.place_of-place.result none no_bin c.max.ensures (omega (arith, c.max.ensures)) c.requires.few below
    (passed-from c.args.bins.now c.max.result c.place_of-place.result c.place_of-place.ensures.value no_bin)
    (found-from c.args.bins.now c.max.result c.place_of-place.result c.place_of-place.ensures.value no_bin below) in
    let loss = c.loss_in_bin.ensures.value in
    let same = c.from-number.ensures in
    let end = c.end_before-before.ensures.value no_bin in
    record { value = cc }
