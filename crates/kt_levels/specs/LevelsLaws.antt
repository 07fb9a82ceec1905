-- Laws of amounts that are given down by lanes, from a level to the next one below.
-- The rule: docs/FINANCIAL_MODULE.md, "Allocation".
use Rattle.std.specs.Prelude.{◌≡◌, ℕ, suc, ◌<◌, ◌≤◌, ◌^◌, false, List, [], All, length, slice_index, slice_index_or}
use Rattle.std.specs.List.{AllByRecursion, flat_map, sum, sum_by}
use Rattle.std.proofs.Common.{refl, sym, ap, subst, ◌∙◌, arith}
use Rattle.std.proofs.lemmas.List.{length-map}
use Rattle.std.proofs.lemmas.List.FromFn.{get_or-map-range_with_len}
use Rattle.kt_fmtree.specs.Carried.{row_from, row_of, leaf_row}
use Rattle.kt_fmtree.specs.Parts.{Parts, HasProgramme, units_at}
use Rattle.kt_fmtree.specs.declared.node.Node.{Node}
use Rattle.kt_fmtree.specs.DownLaws.{can-next, level-few, nodes-places, levels-next}
use Rattle.kt_fmtree.specs.Placed.{level_down, levels_down, node_at}
use Rattle.kt_fmtree.specs.declared.part.PlacedPart.{PlacedPart}
use Rattle.kt_lanes.specs.Lanes.{column, IsLane}
use Rattle.kt_levels.specs.Units.{child_losses, losses_of, CanTake}
use Rattle.kt_levels.specs.Climbed.{IsClimbed, carried_at, level_lanes}
use Rattle.kt_levels.specs.ClimbedLaws.{can-take}
use Rattle.kt_levels.specs.Down.{AreBacked, AreLevelSums, ArePlaced, AreSumsOf, CanGive, CanGiveBy, given_losses, placed_at}
use Rattle.kt_levels.specs.DownLaws.{backed-down, given-backed, next-backed, places-all}
use Rattle.kt_levels.specs.PoliciesLaws.{carried}
use Rattle.kt_levels.specs.declared.climbing.Climbed.{Climbed}
use Rattle.kt_levels.specs.declared.down.PlacedLanes.{PlacedLanes}

module _ (parts : Parts) (has : HasProgramme parts) (lanes : List (List ℕ)) (climbed : Climbed) (is_climbed : IsClimbed parts lanes climbed) where
  -- what is carried at a level
  pub row-at : (k level : ℕ) → level < length parts.levels → slice_index_or (carried_at parts lanes k).rows level [] ≡ row_of parts (column k lanes) level
  row-at k level below = get_or-map-range_with_len (row_from parts.levels (leaf_row parts.leaves (column k lanes))) 0 (length parts.levels) level level [] below (omega arith)

  module _ (level next : ℕ) (level_is : level ≡ suc next) (amounts : PlacedLanes) (placed : ArePlaced climbed.width amounts) (can : (k : ℕ) → k < climbed.width → CanGive parts (column k lanes) level (placed_at k amounts)) where
    some : 0 < climbed.width
    some = is_climbed.losses.some

    within : level ≤ length parts.levels
    within = (can 0 some).can.within

    pub next-below : next < length parts.levels
    next-below = omega (arith, within)

    pub next-row : next ≤ length climbed.levels.rows.items
    next-row = omega (arith, next-below, is_climbed.enough)

    -- what the level below carries is not too much
    next-takes : All (CanTake climbed.width (level_lanes lanes climbed.levels next)) (slice_index_or parts.levels next [])
    next-takes = can-take parts has climbed.width lanes is_climbed.losses next next-below (level_lanes lanes climbed.levels next) (is_climbed.rows next next-below)

    -- the places are those of nodes
    next-places : All (λ place. place < length (slice_index_or parts.levels next [])) amounts.places.items
    next-places =
        places-all (λ place. place < length (slice_index_or parts.levels next [])) amounts.places.items (column 0 amounts.lanes) (placed.count_is ∙ sym (length-map amounts.lanes (λ (one : List ℕ). slice_index one 0)))
        (nodes-places parts false level next level_is (placed_at 0 amounts) (can 0 some).can)

    -- the amounts are backed by what the level below carries
    next-backs : (k : ℕ) → k < climbed.width → AreBacked (slice_index_or parts.levels next []) (column k (level_lanes lanes climbed.levels next)) (placed_at k amounts)
    next-backs k less = subst (λ row. AreBacked (slice_index_or parts.levels next []) row (placed_at k amounts)) (sym ((is_climbed.rows next next-below).each k less)) ((can k less).backed next level_is)

    module _ (nodes : List Node) (nodes_are : nodes ≡ slice_index_or parts.levels next []) (below : List (List ℕ)) (below_are : below ≡ level_lanes lanes climbed.levels next) where
      -- so they can be given to that level
      pub next-gives : CanGiveBy climbed.width nodes below amounts
      next-gives =
          subst (λ (all : List Node). CanGiveBy climbed.width all below amounts) (sym nodes_are)
          (subst (λ (row : List (List ℕ)). CanGiveBy climbed.width (slice_index_or parts.levels next []) row amounts) (sym below_are)
          (record { can = next-takes; wide = (is_climbed.rows next next-below).wide; placed = placed; within = next-places; backed = next-backs }))

      -- its lanes are what is carried there
      below-rows : (k : ℕ) → k < climbed.width → column k below ≡ losses_of (row_of parts (column k lanes) next)
      below-rows k less = ap (column k) below_are ∙ (is_climbed.rows next next-below).each k less

      -- so are what the children of units have in all
      pub next-sums : (sums : List ℕ) → AreLevelSums parts lanes climbed.width next amounts.places.items sums → AreSumsOf climbed.width nodes below amounts.places.items sums
      next-sums sums are = λ j d inside. one (slice_index_or amounts.places.items j d) (are j d inside)
        where
          one : (place : ℕ) → IsLane climbed.width (λ k. sum (child_losses (losses_of (row_of parts (column k lanes) next)) (node_at (slice_index_or parts.levels next []) place))) sums → IsLane climbed.width (λ k. sum (child_losses (column k below) (node_at nodes place))) sums
          one place is = record {
            wide = is.wide;
            each = λ k less.
                is.each k less
                ∙ (ap (λ (row : List ℕ). sum (child_losses row (node_at (slice_index_or parts.levels next []) place))) (sym (below-rows k less))
                ∙ ap (λ (all : List Node). sum (child_losses (column k below) (node_at all place))) (sym nodes_are));
          }

      -- what is given by them is given by what is carried
      by-losses : (k : ℕ) → k < climbed.width → flat_map (given_losses nodes (column k below)) (placed_at k amounts) ≡ flat_map (given_losses (slice_index_or parts.levels next []) (losses_of (row_of parts (column k lanes) next))) (placed_at k amounts)
      by-losses k less =
          ap (λ (all : List Node). flat_map (given_losses all (column k below)) (placed_at k amounts)) nodes_are
          ∙ ap (λ (row : List ℕ). flat_map (given_losses (slice_index_or parts.levels next []) row) (placed_at k amounts)) (below-rows k less)

      by-rows : (k : ℕ) → k < climbed.width → flat_map (given_losses nodes (column k below)) (placed_at k amounts) ≡ level_down false (slice_index_or parts.levels next []) (row_of parts (column k lanes) next) (placed_at k amounts)
      by-rows k less = by-losses k less ∙ backed-down (slice_index_or parts.levels next []) (row_of parts (column k lanes) next) (placed_at k amounts) ((can k less).backed next level_is)

      gives-down : (k : ℕ) → k < climbed.width → flat_map (given_losses nodes (column k below)) (placed_at k amounts) ≡ level_down false (slice_index_or parts.levels next []) (slice_index_or (carried_at parts lanes k).rows next []) (placed_at k amounts)
      gives-down k less = by-rows k less ∙ ap (λ row. level_down false (slice_index_or parts.levels next []) row (placed_at k amounts)) (sym (row-at k next next-below))

      -- it adds to no more than can be given
      pub next-few : (k : ℕ) → k < climbed.width → sum_by (λ part. part.amount) (flat_map (given_losses nodes (column k below)) (placed_at k amounts)) ≤ 10 ^ 17
      next-few k less =
          let few = (can k less).can.few refl in
          omega (arith, few, ap (sum_by (λ (part : PlacedPart). part.amount)) (by-rows k less), level-few (slice_index_or parts.levels next []) (row_of parts (column k lanes) next) (placed_at k amounts))

      module _ (given : PlacedLanes) (given_are : (k : ℕ) → k < climbed.width → placed_at k given ≡ flat_map (given_losses nodes (column k below)) (placed_at k amounts)) where
        -- what is given is what the rows give
        given-down : (k : ℕ) → k < climbed.width → placed_at k given ≡ level_down false (slice_index_or parts.levels next []) (slice_index_or (carried_at parts lanes k).rows next []) (placed_at k amounts)
        given-down k less = given_are k less ∙ gives-down k less

        -- it can be given on
        pub gives-next : (k : ℕ) → k < climbed.width → CanGive parts (column k lanes) next (placed_at k given)
        gives-next k less = record {
          can = can-next parts (carried_at parts lanes k) (carried parts has lanes climbed is_climbed k less) false level next level_is (placed_at k amounts) (placed_at k given) (can k less).can (given-down k less);
          backed = λ last is.
              by last is (subst (λ ps. AllByRecursion (λ part. part.amount ≤ slice_index (losses_of (row_of parts (column k lanes) next)) part.place) ps) (sym (given_are k less ∙ by-losses k less))
              (given-backed (slice_index_or parts.levels next []) (losses_of (row_of parts (column k lanes) next)) (placed_at k amounts) ((can k less).backed next level_is)));
        }
          where
            by : (last : ℕ) → next ≡ suc last → AllByRecursion (λ part. part.amount ≤ slice_index (losses_of (row_of parts (column k lanes) next)) part.place) (placed_at k given) → AreBacked (slice_index_or parts.levels last []) (losses_of (row_of parts (column k lanes) last)) (placed_at k given)
            by last is all =
                next-backed parts has is_climbed.plain (column k lanes) last (subst (λ n. n < length parts.levels) is next-below) (placed_at k given)
                (subst (λ n. AllByRecursion (λ part. part.amount ≤ slice_index (losses_of (row_of parts (column k lanes) n)) part.place) (placed_at k given)) is all)

        -- and what is given then is given in all
        pub given-on : (k : ℕ) → k < climbed.width → levels_down false parts.levels (carried_at parts lanes k).rows next (placed_at k given) ≡ levels_down false parts.levels (carried_at parts lanes k).rows level (placed_at k amounts)
        given-on k less = levels-next false parts.levels (carried_at parts lanes k).rows level next level_is (placed_at k amounts) (placed_at k given) (levels_down false parts.levels (carried_at parts lanes k).rows next (placed_at k given)) (given-down k less) refl

      module _ (last : next ≡ 0) where
        -- the lanes below the lowest level are those of the ids
        pub leaves-count : length below ≡ length parts.leaves
        leaves-count = ap length below_are ∙ ((is_climbed.rows next next-below).count_is ∙ (ap (λ n. length (units_at parts n)) last ∙ length-map parts.leaves (slice_index parts.ids)))

        -- what these are given is given in all
        pub ids-given : (k : ℕ) → k < climbed.width → flat_map (given_losses nodes (column k below)) (placed_at k amounts) ≡ levels_down false parts.levels (carried_at parts lanes k).rows level (placed_at k amounts)
        ids-given k less =
            let given = flat_map (given_losses nodes (column k below)) (placed_at k amounts) in
            levels-next false parts.levels (carried_at parts lanes k).rows level next level_is (placed_at k amounts) given given (gives-down k less) (ap (λ n. levels_down false parts.levels (carried_at parts lanes k).rows n given) (sym last))
