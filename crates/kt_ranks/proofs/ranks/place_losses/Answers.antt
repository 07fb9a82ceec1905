-- The losses stand at the places of all ranks that are asked for.
use Rattle.std.proofs.Common.{get_or, ◌-◌, ◌/◌, ◌≡◌, ◌++◌, map, slice_index, ap, sym, ◌∙◌}
use Rattle.std.proofs.lemmas.List.Elements.{All-weaker}
use Rattle.std.proofs.lemmas.List.Sorted.{All-permutation, IsPermutation-sym}
use Rattle.kt_ranks.specs.RankedLosses.{ranked_loss}
use Rattle.kt_ranks.specs.Ranks.{curve_ranks}
use Rattle.kt_ranks.specs.RankLaws.{loss_is_ranked, ranked_same}
use Rattle.kt_ranks.specs.SelectLaws.{all_asked}
use Rattle.kt_ranks.proofs.ranks.place_losses.Goals as goal

pub returns : goal.returns
returns c = record {
  placed = λ whole same.
      let values = c.args.values.now in
      let ranks = c.in_ok-ranks.ranks.items in
      let asked = curve_ranks c.args.count c.args.returns.now in
      let found : c.as_slice-3.result.now ≡ map (ranked_loss values) c.as_slice-2.result.now =
      c.as_slice-3.ensures.value ∙ c.in_ok-append_losses.ensures.ok ∙ ap (λ losses. losses ++ map (ranked_loss values) c.as_slice.result.now) c.in_ok-losses.ensures.items
      ∙ ap (map (ranked_loss values)) (c.as_slice.ensures.value ∙ sym c.as_slice-2.ensures.value) in
      all_asked (λ rank. slice_index c.put_losses.new.values rank ≡ ranked_loss whole rank) c.args.count c.args.returns.now
      (All-permutation (λ rank. slice_index c.put_losses.new.values rank ≡ ranked_loss whole rank) ranks asked (IsPermutation-sym asked ranks c.in_ok-ranks.ensures.same)
      (All-weaker (λ rank. slice_index c.put_losses.new.values rank ≡ ranked_loss values rank) (λ rank. slice_index c.put_losses.new.values rank ≡ ranked_loss whole rank) (λ rank is. is ∙ ranked_same values whole same rank) ranks
      (rw c.as_slice-2.ensures.value at (c.put_losses.ensures values (sym c.append_losses.auto.values) found))));
}

pub returns-then-values-le-FEW : goal.returns-then-values-le-FEW
returns-then-values-le-FEW c = record {
  placed = λ whole same k d inside low.
      let rank_is = loss_is_ranked c.rank.new.values whole c.rank.ensures.falls (λ least some. c.rank.ensures.same least ∙ same least some) in
      let period = get_or c.args.returns.now k d in
      (rank_is (c.args.count / period - 1), rank_is (c.args.count / period));
}
