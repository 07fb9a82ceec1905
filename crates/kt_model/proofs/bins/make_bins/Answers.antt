use Rattle.std.proofs.Common.{◌∙◌, ◌+◌, ◌-◌, ◌++◌, ◌<◌, List, ap, arith, sym, get_or, drop}
use Rattle.std.proofs.lemmas.List.Sums.{sum_by_more}
use Rattle.kt_rec.specs.declared.hazard.DamageBin.{DamageBin}
use Rattle.kt_stream.specs.declared.entry.Bin.{Bin}
use Rattle.kt_model.specs.Distribution.{bins_behind}
use Rattle.kt_model.proofs.BinLemmas.{bins_more, bins_done}
use Rattle.kt_model.proofs.bins.make_bins.Goals as goal

pub loop-place-preserved : goal.loop-place-preserved
loop-place-preserved c =
    let none : DamageBin = record { bin_index = 0; bin_from = 0; bin_to = 0; interpolation = 0; interval_type = 0 } in
    let chances = c.args.chances.now in
    let dictionary = c.args.dictionary.now in
    let k = c.loop-place.place in
    let count = c.count_of-count.result in
    let within = c.count_of-count.ensures.within in
    let last : 0 < get_or chances (count - 1) 0 = c.count_of-count.ensures.last (omega arith) in
    record {
      before = ap (λ n. n + get_or chances k 0) c.loop-place.invariant.before ∙ sym (sum_by_more (λ n. n) chances k 0 (omega arith));
      bins = λ chance are.
          ap (λ (bins : List Bin). bins ++ bins_behind chance (c.loop-place.before + get_or chances k 0) (drop (k + 1) dictionary)) c.in_ok-push.ensures.ok
          ∙ bins_more chance chances dictionary are c.requires.same none c.loop-place.bins (bins_behind chance 0 dictionary) k (count - 1) c.loop-place.before (omega arith) (omega arith) last (c.loop-place.invariant.bins chance are);
    }

pub returns : goal.returns
returns c =
    let none : DamageBin = record { bin_index = 0; bin_from = 0; bin_to = 0; interpolation = 0; interval_type = 0 } in
    let chances = c.args.chances.now in
    let dictionary = c.args.dictionary.now in
    record {
      value = λ chance are. bins_done chance chances dictionary are c.requires.same none c.loop-place.bins (bins_behind chance 0 dictionary) c.loop-place.place c.loop-place.before (λ k after. c.count_of-count.ensures.none_behind k (omega arith)) (c.loop-place.invariant.bins chance are);
    }
