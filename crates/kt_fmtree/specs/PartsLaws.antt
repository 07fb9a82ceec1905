-- What the lists of a programme give of its tree.
-- The rule: docs/FINANCIAL_MODULE.md, "Levels".
use Rattle.std.specs.Prelude.{◌≡◌, ℕ, zero, suc, ◌≤◌, ◌<◌, ◌^◌, List, [], ◌∷◌, length, map, slice_index, slice_index_or}
use Rattle.std.specs.List.{sum}
use Rattle.std.proofs.Common.{refl, sym, ap, subst, ◌∙◌, arith}
use Rattle.std.proofs.lemmas.List.{get_or-map}
use Rattle.std.proofs.lemmas.List.Sums.{sum-map}
use Rattle.kt_rules.specs.Amounts.{total}
use Rattle.kt_rules.specs.declared.carry.Carry.{Carry}
use Rattle.kt_rules.specs.declared.profile.Profile.{Profile}
use Rattle.kt_fmtree.specs.Tree.{Tree, IsTree, beneath, base_of}
use Rattle.kt_fmtree.specs.TreeLaws.{base_of-total, ground_up-few}
use Rattle.kt_fmtree.specs.Carried.{Carried, AreCarried}
use Rattle.kt_fmtree.specs.Parts.{Parts, IsProgramme}

module _ (tree : Tree) (parts : Parts) (is : IsProgramme tree parts) (node : ℕ) (below : node < length parts.tops) where
  node-top : node < length tree.tops
  node-top = subst (λ tops. node < length tops) is.tops_are below

  -- the layers of a top, and the ids beneath it
  pub layers-are : slice_index_or parts.layers node [] ≡ tree.layers (slice_index tree.tops node)
  layers-are = ap (λ all. slice_index_or all node []) is.layers_are ∙ get_or-map tree.layers tree.tops node 0 [] node-top

  pub beneath-are : slice_index_or parts.beneath node [] ≡ beneath tree (slice_index tree.tops node)
  beneath-are = ap (λ all. slice_index_or all node []) is.beneath_are ∙ get_or-map (beneath tree) tree.tops node 0 [] node-top

  -- the terms of its layers
  pub terms-are : slice_index_or parts.terms node [] ≡ map (tree.layer_profile (slice_index tree.tops node)) (tree.layers (slice_index tree.tops node))
  terms-are = ap (λ all. slice_index_or all node []) is.terms_are ∙ get_or-map (λ top. map (tree.layer_profile top) (tree.layers top)) tree.tops node 0 [] node-top

  -- there are as many terms as layers
  pub terms-count : length (slice_index_or parts.terms node []) ≡ length (slice_index_or parts.layers node [])
  terms-count = ap length terms-are ∙ (count (tree.layer_profile (slice_index tree.tops node)) (tree.layers (slice_index tree.tops node)) ∙ ap length (sym layers-are))
    where
      count : (f : ℕ → Profile) (xs : List ℕ) → length (map f xs) ≡ length xs
      count f [] = refl
      count f (x ∷ xs) = ap suc (count f xs)

  -- the terms of the layer in a place
  pub terms-at : (place layer : ℕ) (d : Profile) → place < length (slice_index_or parts.layers node []) → slice_index (slice_index_or parts.layers node []) place ≡ layer → slice_index_or (slice_index_or parts.terms node []) place d ≡ tree.layer_profile (slice_index tree.tops node) layer
  terms-at place layer d inside here =
      let among : place < length (tree.layers (slice_index tree.tops node)) = subst (λ layers. place < length layers) layers-are inside in
      ap (λ terms. slice_index_or terms place d) terms-are
      ∙ (get_or-map (tree.layer_profile (slice_index tree.tops node)) (tree.layers (slice_index tree.tops node)) place 0 d among
      ∙ ap (tree.layer_profile (slice_index tree.tops node)) (ap (λ layers. slice_index layers place) (sym layers-are) ∙ here))

-- what comes to a top adds to at most what all ids have
pub base-few : (tree : Tree) → IsTree tree → (loss : ℕ → ℕ) → sum (map loss tree.ids) ≤ 10 ^ 16 → (top : ℕ) → total (base_of tree loss tree.top_level top) ≤ 10 ^ 16
base-few tree is loss few top = by tree.top_level is.levels
  where
    by : (level : ℕ) → 0 < level → total (base_of tree loss level top) ≤ 10 ^ 16
    by zero above = absurd (omega arith)
    by (suc level) above = omega (arith, base_of-total tree is loss (suc level) top, ground_up-few tree is loss level top, sum-map loss tree.ids, few)

-- what comes to the top in a place
pub base-at : (tree : Tree) (loss : ℕ → ℕ) (parts : Parts) (carried : Carried) → IsProgramme tree parts → AreCarried tree loss parts carried → (node : ℕ) (d : Carry) → node < length parts.tops → slice_index_or carried.bases node d ≡ base_of tree loss tree.top_level (slice_index tree.tops node)
base-at tree loss parts carried is are node d below =
    ap (λ bases. slice_index_or bases node d) are.bases_are ∙ get_or-map (base_of tree loss tree.top_level) tree.tops node 0 d (subst (λ tops. node < length tops) is.tops_are below)
