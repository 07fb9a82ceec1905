-- Laws of lanes by rising id.
-- The rule: docs/FINANCIAL_MODULE.md, "Allocation".
use Rattle.std.specs.Prelude.{◌≡◌, ℕ, ◌+◌, ◌<◌, ◌≤◌, ◌^◌, false, cond, nat_eq, List, [], ◌∷◌, length, map, take, replicate, slice_index, slice_index_or}
use Rattle.std.specs.Cmp.{nat_eq_equiv}
use Rattle.std.specs.List.{AllByRecursion, sum_by}
use Rattle.std.proofs.Common.{slice_set, refl, sym, ap, subst, ◌∙◌, arith}
use Rattle.std.proofs.lemmas.Bool.Decides.{nat_tests}
use Rattle.std.proofs.lemmas.List.{length-map}
use Rattle.std.proofs.lemmas.List.Sums.{sum_by-cons}
use Rattle.kt_rec.specs.Rising.{IsRising}
use Rattle.kt_fmtree.specs.Sharing.{Part, part_of}
use Rattle.kt_rec.specs.ById.{with_more}
use Rattle.kt_fmtree.specs.IdLaws.{no-parts, next-part, part-fits}
use Rattle.kt_fmtree.specs.Placed.{unit_parts}
use Rattle.kt_fmtree.specs.declared.part.PlacedPart.{PlacedPart}
use Rattle.kt_lanes.specs.Lanes.{column, AreWide, AreLanes}
use Rattle.kt_levels.specs.Down.{ArePlaced, amounts_of, placed, placed_at}
use Rattle.kt_levels.specs.DownLaws.{placed-here, placed-inside, placed-of}
use Rattle.kt_levels.specs.declared.down.PlacedLanes.{PlacedLanes}

-- ---- lanes of parts, one after the other

module _ (width : ℕ) (units ids : List ℕ) (parts : PlacedLanes) (are : ArePlaced width parts) (at : ℕ) (below : at < length parts.places.items) where
  module _ (lane : List ℕ) (lane_is : lane ≡ slice_index_or parts.lanes at lane) (found : List (List ℕ)) (so_far : AreLanes width (length ids) (λ k. map (part_of (unit_parts units (take at (placed_at k parts)))) ids) found) where
    no_part : PlacedPart
    no_part = record { place = 0; amount = 0 }

    -- the next lane fits
    pub lane-fits : ((k : ℕ) → k < width → sum_by (λ part. part.amount) (placed_at k parts) ≤ 10 ^ 17) → (k place : ℕ) → k < width → place < length ids → slice_index (column k found) place + slice_index lane k < 2 ^ 64
    lane-fits few k place less within =
        subst (λ (part : PlacedPart). slice_index (column k found) place + part.amount < 2 ^ 64) (placed-here width parts are at below k no_part lane lane_is)
        (omega (arith, part-fits units ids (column k found) (placed_at k parts) at no_part (placed-inside width parts are at below k) (few k less) (so_far.each k less) place within))

    -- the next lane is added
    pub lane-next : (id : ℕ) → id ≡ slice_index units (slice_index parts.places.items at) → (more : List (List ℕ)) → AreLanes width (length ids) (λ k. with_more ids (column k found) id (slice_index lane k)) more → AreLanes width (length ids) (λ k. map (part_of (unit_parts units (take (at + 1) (placed_at k parts)))) ids) more
    lane-next id id_is more more_are = record {
      count_is = more_are.count_is;
      wide = more_are.wide;
      each = λ k less.
          let one = placed-here width parts are at below k no_part lane lane_is in
          next-part units ids (column k found) (column k more) (placed_at k parts) at id no_part (placed-inside width parts are at below k) (so_far.each k less)
          (id_is ∙ ap (λ (part : PlacedPart). slice_index units part.place) (sym one))
          (more_are.each k less ∙ ap (λ (part : PlacedPart). with_more ids (column k found) id part.amount) (sym one));
    }

-- no lanes were added
pub lanes-start : (width : ℕ) (ids : List ℕ) (found : List (List ℕ)) → AreLanes width (length ids) (λ k. replicate (length ids) 0) found → AreLanes width (length ids) (λ k. map (part_of []) ids) found
lanes-start width ids found are = record { count_is = are.count_is; wide = are.wide; each = λ k less. are.each k less ∙ no-parts ids }

-- ---- units that are the ids, in their order

module _ (units : List ℕ) where
  -- an id that is below all units has nothing
  own-none : (id : ℕ) (places amounts : List ℕ) → AllByRecursion (λ other. id < other) (map (slice_index units) places) → part_of (unit_parts units (placed places amounts)) id ≡ 0
  own-none id [] amounts above = refl
  own-none id (place ∷ places) [] above = refl
  own-none id (place ∷ places) (amount ∷ amounts) above =
      let differ : nat_eq (slice_index units place) id ≡ false = apart (slice_index units place) id above.0 in
      omega (arith, sum_by-cons (λ (part : Part). cond (nat_eq part.unit id) part.amount 0) (record { unit = slice_index units place; amount = amount }) (unit_parts units (placed places amounts)), ap (λ b. cond b amount 0) differ, own-none id places amounts above.1)
    where
      apart : (one other : ℕ) → other < one → nat_eq one other ≡ false
      apart one other less = grind (arith, nat_tests)

  -- an amount of another takes no part
  own-other : (unit amount : ℕ) (parts : List Part) (ids : List ℕ) → AllByRecursion (λ other. unit < other) ids → map (part_of (record { unit = unit; amount = amount } ∷ parts)) ids ≡ map (part_of parts) ids
  own-other unit amount parts [] above = refl
  own-other unit amount parts (id ∷ ids) above =
      let differ : nat_eq unit id ≡ false = apart unit id above.0 in
      let same : part_of (record { unit = unit; amount = amount } ∷ parts) id ≡ part_of parts id =
      omega (arith, sum_by-cons (λ (part : Part). cond (nat_eq part.unit id) part.amount 0) (record { unit = unit; amount = amount }) parts, ap (λ b. cond b amount 0) differ) in
      ap (λ n. n ∷ map (part_of (record { unit = unit; amount = amount } ∷ parts)) ids) same ∙ ap (λ ns. part_of parts id ∷ ns) (own-other unit amount parts ids above.1)
    where
      apart : (one other : ℕ) → one < other → nat_eq one other ≡ false
      apart one other less = grind (arith, nat_tests)

  -- each has its own amount
  own-parts : (places amounts : List ℕ) → length amounts ≡ length places → IsRising (map (slice_index units) places) → amounts ≡ map (part_of (unit_parts units (placed places amounts))) (map (slice_index units) places)
  unfolding IsRising
  own-parts [] [] same rises = refl
  own-parts [] (amount ∷ amounts) same rises = absurd (omega arith)
  own-parts (place ∷ places) [] same rises = absurd (omega arith)
  own-parts (place ∷ places) (amount ∷ amounts) same rises =
      let unit = slice_index units place in
      let parts = unit_parts units (placed places amounts) in
      let own : amount ≡ part_of (record { unit = unit; amount = amount } ∷ parts) unit =
      omega (arith, sum_by-cons (λ (part : Part). cond (nat_eq part.unit unit) part.amount 0) (record { unit = unit; amount = amount }) parts, ap (λ b. cond b amount 0) (nat_eq_equiv.refl unit), own-none unit places amounts rises.0) in
      ap (λ n. n ∷ amounts) own
      ∙ ap (λ ns. part_of (record { unit = unit; amount = amount } ∷ parts) unit ∷ ns) (own-parts places amounts (omega (arith, same)) rises.1 ∙ sym (own-other unit amount parts (map (slice_index units) places) rises.0))

  -- so units that are the ids, in their order, have what these have
  pub own-amounts : (ids : List ℕ) → IsRising ids → (places : List ℕ) → map (slice_index units) places ≡ ids → (parts : List PlacedPart) → map (λ part. part.place) parts ≡ places → amounts_of parts ≡ map (part_of (unit_parts units parts)) ids
  own-amounts ids rises places same parts places_are =
      let own = map (λ (part : PlacedPart). part.place) parts in
      let here : map (slice_index units) own ≡ ids = ap (map (slice_index units)) places_are ∙ same in
      own-parts own (amounts_of parts) (length-map parts (λ (part : PlacedPart). part.amount) ∙ sym (length-map parts (λ (part : PlacedPart). part.place))) (subst IsRising (sym here) rises)
      ∙ (ap (λ all. map (part_of (unit_parts units all)) (map (slice_index units) own)) (placed-of parts) ∙ ap (map (part_of (unit_parts units parts))) here)
