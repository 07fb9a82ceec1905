-- Laws of what the ids beneath a top have of a policy loss.
-- The rule: docs/FINANCIAL_MODULE.md, "Allocation".
use Rattle.std.proofs.Common.{◌≡◌, ℕ, zero, suc, ◌<◌, ◌≤◌, ◌^◌, Bool, true, false, List, [], ◌∷◌, length, map, get_or, refl, sym, ap, subst, ◌∙◌, arith}
use Rattle.std.specs.List.{AllByRecursion, sum, sum_by}
use Rattle.std.proofs.lemmas.List.Sums.{sum_by-cons, sum-map}
use Rattle.kt_rec.specs.Rising.{IsRising}
use Rattle.kt_fmtree.specs.Sharing.{Part, part_of, id_parts, shared_down}
use Rattle.kt_fmtree.specs.Tree.{Tree, IsTree, ground_up, policy_loss, comes_to, beneath}
use Rattle.kt_fmtree.specs.TreeLaws.{ground_up-few, ground_up-beneath, policy_loss-le}
use Rattle.kt_fmtree.specs.Parts.{Parts, IsProgramme, units_at}
use Rattle.kt_fmtree.specs.PartsLaws.{beneath-are}
use Rattle.kt_rec.specs.RisingLaws.{rising-filter}
use Rattle.kt_fmtree.specs.Carried.{Carried, AreCarried, IsCarriedBy}
use Rattle.kt_fmtree.specs.Placed.{levels_down, CanShare, unit_parts}
use Rattle.kt_fmtree.specs.declared.part.PlacedPart.{PlacedPart}
use Rattle.std.proofs.lemmas.List.{length-map}
use Rattle.kt_rec.specs.Sums.{sum_by-map}
use Rattle.kt_fmtree.specs.SharedPartsLaws.{tree_parts, tree_parts-shared, levels-given, levels-can, whole-losses, whole-few}

-- ---- bounds

-- the ground-up loss beneath a top is at most 10^16
pub top-few : (tree : Tree) → IsTree tree → (loss : ℕ → ℕ) → sum (map loss tree.ids) ≤ 10 ^ 16 → (top : ℕ) → ground_up tree loss tree.top_level top ≤ 10 ^ 16
top-few tree is loss few top = by tree.top_level is.levels
  where
    by : (level : ℕ) → 0 < level → ground_up tree loss level top ≤ 10 ^ 16
    by zero above = absurd (omega arith)
    by (suc level) above = omega (arith, ground_up-few tree is loss level top, sum-map loss tree.ids, few)

-- and so is a policy loss
pub policy-few : (programme : Parts) (carried : Carried) (of : IsCarriedBy programme carried) (top layer : ℕ) → policy_loss of.tree of.loss top layer ≤ 10 ^ 16
policy-few programme carried of top layer = omega (arith, policy_loss-le of.tree of.is.is of.loss top layer, top-few of.tree of.is.is of.loss of.few top)

-- the ids beneath a top rise
pub beneath-rises : (programme : Parts) (carried : Carried) → IsCarriedBy programme carried → (node : ℕ) → node < length programme.tops → (ids : List ℕ) → ids ≡ get_or programme.beneath node [] → IsRising ids
beneath-rises programme carried of node below ids ids_are =
    subst IsRising (sym (ids_are ∙ beneath-are of.tree programme of.is node below))
    (rising-filter (comes_to of.tree of.tree.top_level (get_or of.tree.tops node 0)) of.tree.ids (subst IsRising of.is.ids_are of.is.ids_rise))

-- ---- down from a top

-- the part of a top
abbrev pub top_part : ℕ → ℕ → List PlacedPart
top_part node amount = record { place = node; amount = amount } ∷ []

-- what a top has can be given down
pub top-can : (programme : Parts) (carried : Carried) → IsCarriedBy programme carried → (whole : Bool) (node amount : ℕ) → node < length programme.tops → amount ≤ 10 ^ 16 → CanShare programme whole (length programme.levels) (top_part node amount)
top-can programme carried of whole node amount below few = record {
  within = omega arith;
  places = (subst (λ n. node < n) long below, tt);
  few = λ is. omega (arith, sum_by-cons (λ (part : PlacedPart). part.amount) (record { place = node; amount = amount }) []);
}
  where
    long : length programme.tops ≡ length (units_at programme (length programme.levels))
    long = ap length (of.is.tops_are ∙ (sym of.is.top_units ∙ ap (units_at programme) (sym of.is.levels_are)))

module _ (programme : Parts) (carried : Carried) (of : IsCarriedBy programme carried) (whole : Bool) (node amount : ℕ) (below : node < length programme.tops) (few : amount ≤ 10 ^ 16) where
  -- what the ids have then
  abbrev leaves : List PlacedPart
  leaves = levels_down whole programme.levels carried.rows (length programme.levels) (top_part node amount)

  leaves-can : CanShare programme whole 0 leaves
  leaves-can = levels-can programme carried of of.tree of.loss of.is of.carried_are whole (length programme.levels) (top_part node amount) (top-can programme carried of whole node amount below few)

  -- they have places
  pub leaves-places : (parts : List PlacedPart) → parts ≡ leaves → AllByRecursion (λ part. part.place < length programme.leaves) parts
  leaves-places parts are = subst (λ n. AllByRecursion (λ part. part.place < n) parts) (length-map programme.leaves (λ place. get_or programme.ids place 0)) (subst (λ ps. AllByRecursion (λ part. part.place < length (units_at programme 0)) ps) (sym are) leaves-can.places)

  -- they are the parts of the tree
  pub leaves-are : (tree : Tree) (loss : ℕ → ℕ) (is : IsProgramme tree programme) → AreCarried tree loss programme carried → unit_parts (units_at programme 0) leaves ≡ tree_parts tree loss whole tree.top_level (record { unit = get_or tree.tops node 0; amount = amount } ∷ [])
  leaves-are tree loss is are =
      levels-given programme carried of tree loss is are whole (length programme.levels) (top_part node amount) (top-can programme carried of whole node amount below few)
      ∙ (ap (λ n. tree_parts tree loss whole n (unit_parts (units_at programme n) (top_part node amount))) is.levels_are
      ∙ ap (λ us. tree_parts tree loss whole tree.top_level (unit_parts us (top_part node amount))) is.top_units)

  -- what each id beneath has
  pub amounts-beneath : (tree : Tree) (loss : ℕ → ℕ) (is : IsProgramme tree programme) → AreCarried tree loss programme carried → (parts : List PlacedPart) (ids amounts : List ℕ) → parts ≡ leaves → ids ≡ get_or programme.beneath node [] → amounts ≡ map (part_of (unit_parts (units_at programme 0) parts)) ids
      → amounts ≡ map (part_of (tree_parts tree loss whole tree.top_level (record { unit = get_or tree.tops node 0; amount = amount } ∷ []))) (beneath tree (get_or tree.tops node 0))
  amounts-beneath tree loss is are parts ids amounts parts_are ids_are amounts_are =
      amounts_are
      ∙ (ap (λ ps. map (part_of (unit_parts (units_at programme 0) ps)) ids) parts_are
      ∙ (ap (λ ps. map (part_of ps) ids) (leaves-are tree loss is are)
      ∙ ap (map (part_of (tree_parts tree loss whole tree.top_level (record { unit = get_or tree.tops node 0; amount = amount } ∷ [])))) (ids_are ∙ beneath-are tree programme is node below)))

-- shares that were given down add to no more than the policy loss
pub shared-few : (programme : Parts) (carried : Carried) → IsCarriedBy programme carried → (node amount : ℕ) → node < length programme.tops → amount ≤ 10 ^ 16 → (parts : List PlacedPart) → parts ≡ levels_down false programme.levels carried.rows (length programme.levels) (top_part node amount) → sum_by (λ part. part.amount) parts ≤ 10 ^ 17
shared-few programme carried of node amount below few parts are =
    let can : CanShare programme false 0 (levels_down false programme.levels carried.rows (length programme.levels) (top_part node amount)) = leaves-can programme carried of false node amount below few in
    subst (λ ps. sum_by (λ (part : PlacedPart). part.amount) ps ≤ 10 ^ 17) (sym are) (can.few refl)

-- losses add to no more than all
pub whole-parts-few : (programme : Parts) (carried : Carried) → IsCarriedBy programme carried → (node : ℕ) → node < length programme.tops → (parts : List PlacedPart) → parts ≡ levels_down true programme.levels carried.rows (length programme.levels) (top_part node 0) → sum_by (λ part. part.amount) parts ≤ 10 ^ 17
whole-parts-few programme carried of node below parts are =
    let leaves = levels_down true programme.levels carried.rows (length programme.levels) (top_part node 0) in
    let none : 0 ≤ 10 ^ 16 = omega arith in
    let same : sum_by (λ (part : Part). part.amount) (unit_parts (units_at programme 0) leaves) ≡ sum_by (λ (part : PlacedPart). part.amount) leaves = sum_by-map _ _ leaves in
    let tree = ap (sum_by (λ (part : Part). part.amount)) (leaves-are programme carried of true node 0 below none of.tree of.loss of.is of.carried_are) in
    let all = whole-few of.tree of.is.is of.loss (get_or of.tree.tops node 0) 0 in
    subst (λ ps. sum_by (λ (part : PlacedPart). part.amount) ps ≤ 10 ^ 17) (sym are)
    (omega (arith, same, tree, all, top-few of.tree of.is.is of.loss of.few (get_or of.tree.tops node 0)))

-- ---- the losses and the amounts

-- the ids beneath a top have their losses
pub losses-are : (programme : Parts) (carried : Carried) → IsCarriedBy programme carried → (node : ℕ) → node < length programme.tops → (tree : Tree) (loss : ℕ → ℕ) (is : IsProgramme tree programme) → AreCarried tree loss programme carried → (parts : List PlacedPart) (ids amounts : List ℕ) → parts ≡ levels_down true programme.levels carried.rows (length programme.levels) (top_part node 0) → ids ≡ get_or programme.beneath node [] → amounts ≡ map (part_of (unit_parts (units_at programme 0) parts)) ids
    → amounts ≡ map loss (beneath tree (get_or tree.tops node 0))
losses-are programme carried of node below tree loss is are parts ids amounts parts_are ids_are amounts_are =
    amounts-beneath programme carried of true node 0 below (omega arith) tree loss is are parts ids amounts parts_are ids_are amounts_are
    ∙ whole-losses tree is.is loss (get_or tree.tops node 0) 0

-- the ids beneath a top have their shares of its policy loss
pub down-are : (programme : Parts) (carried : Carried) → IsCarriedBy programme carried → (node layer amount : ℕ) → node < length programme.tops → amount ≤ 10 ^ 16 → (tree : Tree) (loss : ℕ → ℕ) (is : IsProgramme tree programme) → AreCarried tree loss programme carried → amount ≡ policy_loss tree loss (get_or tree.tops node 0) layer → (parts : List PlacedPart) (ids amounts : List ℕ) → parts ≡ levels_down false programme.levels carried.rows (length programme.levels) (top_part node amount) → ids ≡ get_or programme.beneath node [] → amounts ≡ map (part_of (unit_parts (units_at programme 0) parts)) ids
    → amounts ≡ shared_down tree loss (get_or tree.tops node 0) layer
down-are programme carried of node layer amount below few tree loss is are policy parts ids amounts parts_are ids_are amounts_are =
    let top = get_or tree.tops node 0 in
    amounts-beneath programme carried of false node amount below few tree loss is are parts ids amounts parts_are ids_are amounts_are
    ∙ (ap (λ ps. map (part_of ps) (beneath tree top)) (tree_parts-shared tree loss tree.top_level (record { unit = top; amount = amount } ∷ []))
    ∙ ap (λ n. map (part_of (id_parts tree loss tree.top_level (record { unit = top; amount = n } ∷ []))) (beneath tree top)) policy)

-- the losses beneath a top are those that its policy losses are shared by
pub losses-few : (programme : Parts) (carried : Carried) (of : IsCarriedBy programme carried) (node layer policy : ℕ) (losses : List ℕ) → policy ≡ policy_loss of.tree of.loss (get_or of.tree.tops node 0) layer → losses ≡ map of.loss (beneath of.tree (get_or of.tree.tops node 0)) → (policy ≤ sum losses) × (sum losses ≤ 10 ^ 16)
losses-few programme carried of node layer policy losses policy_is losses_are =
    let top = get_or of.tree.tops node 0 in
    let sums : sum losses ≡ ground_up of.tree of.loss of.tree.top_level top = ap sum losses_are ∙ (sum-map of.loss (beneath of.tree top) ∙ sym (ground_up-beneath of.tree of.is.is of.loss top)) in
    let policy_few = policy_loss-le of.tree of.is.is of.loss top layer in
    let top_few = top-few of.tree of.is.is of.loss of.few top in
    (omega (arith, sums, policy_is, policy_few), omega (arith, sums, top_few))
