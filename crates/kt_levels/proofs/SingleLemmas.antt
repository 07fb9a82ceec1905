-- Amounts of units with an only child each, which has them whole.
use Rattle.std.proofs.Common.{◌≡◌, ℕ, ◌+◌, ◌≤◌, List, [], ◌∷◌, ◌++◌, length, map, take, drop, refl, sym, ap, ◌∙◌, arith}
use Rattle.std.specs.List.{All, AllByRecursion, flat_map, sum}
use Rattle.std.proofs.lemmas.List.{length-drop, length-take-le}
use Rattle.std.proofs.lemmas.List.Elements.{recursion_from_All}
use Rattle.kt_fmtree.specs.declared.node.Node.{Node}
use Rattle.kt_fmtree.specs.Placed.{node_at, parts_from}
use Rattle.kt_fmtree.specs.declared.part.PlacedPart.{PlacedPart}
use Rattle.kt_levels.specs.Units.{child_losses}
use Rattle.kt_levels.specs.Down.{AreBacked, given_losses, placed}
use Rattle.kt_lanes.specs.SharesLaws.{only-share}

-- an only child stands below its unit
pub record IsSingle (nodes : List Node) (row : List ℕ) (place : ℕ) : Type 0 where
  pub one : (node_at nodes place).width ≡ 1
  pub within : (node_at nodes place).start + 1 ≤ length row

-- it has the whole amount
only-given : (nodes : List Node) (row : List ℕ) (part : PlacedPart) → IsSingle nodes row part.place → part.amount ≤ sum (child_losses row (node_at nodes part.place)) → given_losses nodes row part ≡ record { place = (node_at nodes part.place).start; amount = part.amount } ∷ []
only-given nodes row part single backed =
    let start = (node_at nodes part.place).start in
    let long : length (child_losses row (node_at nodes part.place)) ≡ 1 = ap (λ n. length (take n (drop start row))) single.one ∙ length-take-le 1 (drop start row) (omega (arith, single.within, length-drop start row)) in
    ap (parts_from start) (sym (only-share part.amount (child_losses row (node_at nodes part.place)) long backed))

-- so the amounts stay, in the places of the children
pub singles-given : (nodes : List Node) (row : List ℕ) (places amounts : List ℕ) → All (IsSingle nodes row) places → AreBacked nodes row (placed places amounts) → placed (map (λ place. (node_at nodes place).start) places) amounts ≡ flat_map (given_losses nodes row) (placed places amounts)
singles-given nodes row places amounts singles backed = over places amounts (recursion_from_All (IsSingle nodes row) places singles) backed
  where
    over : (places amounts : List ℕ) → AllByRecursion (IsSingle nodes row) places → AreBacked nodes row (placed places amounts) → placed (map (λ place. (node_at nodes place).start) places) amounts ≡ flat_map (given_losses nodes row) (placed places amounts)
    over [] amounts singles backed = refl
    over (place ∷ places) [] singles backed = refl
    over (place ∷ places) (amount ∷ amounts) singles backed =
        ap (λ (later : List PlacedPart). record { place = (node_at nodes place).start; amount = amount } ∷ later) (over places amounts singles.1 backed.1)
        ∙ ap (λ (first : List PlacedPart). first ++ flat_map (given_losses nodes row) (placed places amounts)) (sym (only-given nodes row (record { place = place; amount = amount }) singles.0 backed.0))
