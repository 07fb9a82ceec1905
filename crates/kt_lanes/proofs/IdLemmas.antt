-- Amounts that are added to the lane of an id.
use Rattle.std.proofs.Common.{◌≡◌, ℕ, ◌+◌, ◌<◌, ◌^◌, List, [], length, slice_index, slice_index_or, slice_set, sym, ap, subst, ◌∙◌, arith}
use Rattle.std.proofs.lemmas.List.{length-map, length-set}
use Rattle.kt_rec.specs.ById.{with_more}
use Rattle.kt_rec.specs.ByIdLaws.{with-found}
use Rattle.kt_rec.specs.Rising.{IsRising}
use Rattle.kt_lanes.specs.LaneLaws.{column-at, set-column, set-wide}
use Rattle.kt_lanes.specs.Lanes.{column, AreWide, AreLanes}
use Rattle.kt_lanes.specs.SideBySide.{HasMore}

module _ (place width : ℕ) (found : List (List ℕ)) (amount : ℕ → ℕ) (wide : AreWide width found) (inside : place < length found) where
  -- what is added in a place fits
  pub found-fits : ((k : ℕ) → k < width → slice_index (column k found) place + amount k < 2 ^ 64) → (k : ℕ) → k < width → slice_index (slice_index_or found place []) k + amount k < 2 ^ 64
  found-fits few k below = omega (arith, column-at k place found [] inside, few k below)

  -- an id that is found has more
  pub more-found : (ids : List ℕ) → IsRising ids → (id : ℕ) → length found ≡ length ids → slice_index ids place ≡ id → (now : List (List ℕ)) → HasMore place width amount found now → AreLanes width (length ids) (λ k. with_more ids (column k found) id (amount k)) now
  more-found ids rises id same here now added = record {
    count_is = ap length added.now_is ∙ (length-set found place added.lane ∙ same);
    wide = subst (AreWide width) (sym added.now_is) (set-wide width place found wide inside added.lane added.lane_is.wide);
    each = λ k less.
        ap (column k) added.now_is
        ∙ (set-column width place found wide inside added.lane k
        ∙ (ap (slice_set (column k found) place) (added.lane_is.each k less ∙ ap (λ n. n + amount k) (sym (column-at k place found [] inside)))
        ∙ with-found ids (column k found) id (amount k) place rises (length-map found (λ (one : List ℕ). slice_index one k) ∙ same) (subst (λ n. place < n) same inside) here));
  }
