-- Where a top has at most 50 layers, so have those of the struck units, and what an id cedes fits its type.
use Rattle.std.proofs.Common.{◌≡◌, ℕ, ◌*◌, ◌≤◌, ◌^◌, Bool, true, false, cond, nat_eq, List, [], ◌∷◌, Option, Some, None, length, map, refl, sym, ap, subst, ◌∙◌, arith}
use Rattle.std.specs.Prelude.{unwrap_or}
use Rattle.std.specs.List.{AllByRecursion, IsDistinct, list_any, sum, sum_by}
use Rattle.std.proofs.lemmas.List.Sums.{sum_by-cons}
use Rattle.kt_keys.specs.Climbing.{climbed}
use Rattle.kt_rec.specs.Rising.{IsRising, distinct-from_rising}
use Rattle.kt_fmtree.specs.Sharing.{allocated}
use Rattle.kt_rec.specs.Sums.{sum_by-flat_map, sum_by-one}
use Rattle.kt_fmtree.specs.Tree.{Tree, IsTree, beneath, comes_to, is_unit}
use Rattle.kt_fmtree.specs.Struck.{is_struck, struck}
use Rattle.kt_rec.specs.RisingLaws.{rising-filter}
use Rattle.kt_fmtree.specs.Parts.{Parts, IsProgramme}
use Rattle.kt_levels.specs.LookupLaws.{filter-absent, lookup-none}
use Rattle.kt_levels.specs.Shares.{part_of_id}
use Rattle.kt_levels.specs.SharesLaws.{part-le}
use Rattle.kt_rec.specs.ListLaws.{cond-le}
use Rattle.kt_ri.specs.Ceding.{HasFewLayers}
use Rattle.kt_ri.specs.Reinsurance.{ceded_loss}

-- ---- the layers of a top

-- where a top of a tree has few layers, so have those of the programme of its struck units
pub struck-few : (tree : Tree) → IsRising tree.tops → ((top : ℕ) → length (tree.layers top) ≤ 50) → (ids : List ℕ) (parts : Parts) → IsProgramme (struck tree ids) parts → HasFewLayers parts
struck-few tree rises few ids parts is = record {
  tops_rise = subst IsRising (sym is.tops_are) (rising-filter (is_struck tree ids tree.top_level) tree.tops rises);
  layers_few = subst (AllByRecursion (λ layers. length layers ≤ 50)) (sym is.layers_are) (each (struck tree ids).tops);
}
  where
    each : (tops : List ℕ) → AllByRecursion (λ layers. length layers ≤ 50) (map tree.layers tops)
    each [] = tt
    each (top ∷ tops) = (few top, each tops)

-- ---- what an id cedes

-- an id that does not come to a top has nothing of its policy losses
part-none : (tree : Tree) (losses : ℕ → ℕ) (rule top layer id : ℕ) → comes_to tree tree.top_level top id ≡ false → part_of_id tree losses rule top layer id ≡ 0
part-none tree losses rule top layer id apart = ap (λ found. unwrap_or found 0) (lookup-none id (beneath tree top) (allocated tree losses rule top layer) (filter-absent (comes_to tree tree.top_level top) id tree.ids apart))

module _ (tree : Tree) (is : IsTree tree) (losses : ℕ → ℕ) (few : sum (map losses tree.ids) ≤ 10 ^ 16) (rule id : ℕ) where
  -- what it has of the layers of a top
  abbrev of_top : ℕ → ℕ
  of_top top = sum_by (λ (key : ℕ × ℕ). part_of_id tree losses rule key.0 key.1 id) (map (λ layer. (top, layer)) (tree.layers top))

  top-le : (top : ℕ) (layers : List ℕ) → sum_by (λ (key : ℕ × ℕ). part_of_id tree losses rule key.0 key.1 id) (map (λ layer. (top, layer)) layers) ≤ length layers * 10000000000000000
  top-le top [] = omega arith
  top-le top (layer ∷ layers) =
      omega (arith, sum_by-cons (λ (key : ℕ × ℕ). part_of_id tree losses rule key.0 key.1 id) (top, layer) (map (λ layer. (top, layer)) layers), part-le tree is losses rule top layer id, few, top-le top layers)

  top-none : (top : ℕ) → comes_to tree tree.top_level top id ≡ false → (layers : List ℕ) → sum_by (λ (key : ℕ × ℕ). part_of_id tree losses rule key.0 key.1 id) (map (λ layer. (top, layer)) layers) ≡ 0
  top-none top apart [] = refl
  top-none top apart (layer ∷ layers) =
      omega (arith, sum_by-cons (λ (key : ℕ × ℕ). part_of_id tree losses rule key.0 key.1 id) (top, layer) (map (λ layer. (top, layer)) layers), part-none tree losses rule top layer id apart, top-none top apart layers)

  -- it comes to one top at the most
  tops-le : IsDistinct nat_eq tree.tops → AllByRecursion (λ layers. length layers ≤ 50) (map tree.layers tree.tops) → sum_by of_top tree.tops ≤ 500000000000000000
  tops-le once layers = over (climbed tree.next tree.top_level 1 id) refl
    where
      over : (up : Option ℕ) → climbed tree.next tree.top_level 1 id ≡ up → sum_by of_top tree.tops ≤ 500000000000000000
      over None up = omega (arith, none tree.tops)
        where
          none : (tops : List ℕ) → sum_by of_top tops ≡ 0
          none [] = refl
          none (top ∷ tops) = omega (arith, sum_by-cons of_top top tops, top-none top (ap (is_unit top) up) (tree.layers top), none tops)
      over (Some unit) up = omega (arith, below tree.tops layers, sum_by-one 500000000000000000 unit tree.tops once, cond-le (list_any (nat_eq unit) tree.tops) 500000000000000000)
        where
          one : (top : ℕ) → length (tree.layers top) ≤ 50 → (b : Bool) → nat_eq unit top ≡ b → of_top top ≤ cond b 500000000000000000 0
          one top some true is_here = omega (arith, top-le top (tree.layers top), some)
          one top some false apart = omega (arith, top-none top (ap (is_unit top) up ∙ apart) (tree.layers top))

          below : (tops : List ℕ) → AllByRecursion (λ layers. length layers ≤ 50) (map tree.layers tops) → sum_by of_top tops ≤ sum_by (λ top. cond (nat_eq unit top) 500000000000000000 0) tops
          below [] all = omega arith
          below (top ∷ tops) all = omega (arith, sum_by-cons of_top top tops, sum_by-cons (λ top. cond (nat_eq unit top) 500000000000000000 0) top tops, one top all.0 (nat_eq unit top) refl, below tops all.1)

-- what an id cedes is at most 50 times 10^16 cents
pub ceded-le : (tree : Tree) (parts : Parts) → IsProgramme tree parts → HasFewLayers parts → (losses : ℕ → ℕ) → sum (map losses tree.ids) ≤ 10 ^ 16 → (rule id : ℕ) → ceded_loss tree losses rule id ≤ 500000000000000000
ceded-le tree parts is few losses most rule id =
    omega (
      arith,
      sum_by-flat_map (λ (key : ℕ × ℕ). part_of_id tree losses rule key.0 key.1 id) (λ top. map (λ layer. (top, layer)) (tree.layers top)) tree.tops,
      tops-le tree is.is losses most rule id (distinct-from_rising tree.tops (subst IsRising is.tops_are few.tops_rise)) (subst (AllByRecursion (λ layers. length layers ≤ 50)) is.layers_are few.layers_few),
    )
