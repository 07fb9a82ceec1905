-- The layers of tops, one after the other.
use Rattle.std.proofs.Common.{◌≡◌, ℕ, zero, suc, ◌+◌, ◌<◌, ◌≤◌, true, nat_eq, List, [], ◌∷◌, ◌++◌, length, map, drop, slice_index, slice_index_or, refl, sym, ap, subst, ◌∙◌, arith, drop-cons, add-one, append-nil, append_assoc}
use Rattle.std.specs.List.{AllByRecursion, flat_map, list_any}
use Rattle.std.proofs.lemmas.List.{drop_all, get_or-map, map-append}
use Rattle.kt_rec.specs.Rising.{IsRising}
use Rattle.kt_rec.specs.Sums.{each_append, each_member, each_then}
use Rattle.kt_fmtree.specs.Tree.{Tree}
use Rattle.kt_rec.specs.ListLaws.{map-map}
use Rattle.kt_fmtree.specs.Parts.{Parts, IsProgramme}
use Rattle.kt_levels.specs.Shares.{layers_of}
use Rattle.kt_levels.specs.Layers.{IsTopLayer, key_of, layers_from}
use Rattle.kt_levels.specs.declared.layers.TopLayer.{TopLayer}

-- rising ids are not below their places
place-from : (low : ℕ) (ids : List ℕ) → IsRising ids → AllByRecursion (λ id. low ≤ id) ids → (k : ℕ) → k < length ids → low + k ≤ slice_index ids k
unfolding IsRising
place-from low [] rises all k below = absurd (omega arith)
place-from low (id ∷ ids) rises all zero below = let first = all.0 in omega arith
place-from low (id ∷ ids) rises all (suc k) below =
    let first = all.0 in
    let rest = place-from (low + 1) ids rises.1 (each_then (λ other. id < other) (λ other. low + 1 ≤ other) (λ other less. omega arith) ids rises.0) k (omega arith) in
    omega arith

pub place-le : (ids : List ℕ) → IsRising ids → (k : ℕ) → k < length ids → k ≤ slice_index ids k
place-le ids rises k below = let least = place-from 0 ids rises (all ids) k below in omega arith
  where
    all : (ids : List ℕ) → AllByRecursion (λ id. 0 ≤ id) ids
    all [] = tt
    all (id ∷ ids) = (omega arith, all ids)

-- a layer of a top
abbrev pub layer_at : ℕ → ℕ → ℕ → TopLayer
layer_at node top layer = record { node = node; top = top; layer = layer }

-- the layers of one more top
pub layers-step : (layers : List (List ℕ)) (tops : List ℕ) (found now : List TopLayer) (place top : ℕ) → place < length tops → top ≡ slice_index tops place → found ++ layers_from layers place (drop place tops) ≡ layers_from layers 0 tops → now ≡ found ++ map (layer_at place top) (slice_index_or layers place []) → now ++ layers_from layers (place + 1) (drop (place + 1) tops) ≡ layers_from layers 0 tops
layers-step layers tops found now place top below top_is so_far now_is =
    ap (λ made. made ++ layers_from layers (place + 1) (drop (place + 1) tops)) now_is
    ∙ (append_assoc found (map (layer_at place top) (slice_index_or layers place [])) (layers_from layers (place + 1) (drop (place + 1) tops))
    ∙ (ap (λ top. found ++ (map (layer_at place top) (slice_index_or layers place []) ++ layers_from layers (place + 1) (drop (place + 1) tops))) top_is
    ∙ (ap (λ rest. found ++ layers_from layers place rest) (sym next) ∙ so_far)))
  where
    next : drop place tops ≡ slice_index tops place ∷ drop (place + 1) tops
    next = rw (add-one, drop-cons tops place 0) refl

-- those of all tops, which are those of a programme
pub layers-end : (parts : Parts) (tops : List ℕ) (found : List TopLayer) (place : ℕ) → length tops ≤ place → found ++ layers_from parts.layers place (drop place tops) ≡ layers_from parts.layers 0 tops → tops ≡ parts.tops → found ≡ layers_from parts.layers 0 parts.tops
layers-end parts tops found place past so_far tops_are =
    sym (append-nil found)
    ∙ (ap (λ rest. found ++ layers_from parts.layers place rest) (sym (drop_all place tops past))
    ∙ (so_far ∙ ap (layers_from parts.layers 0) tops_are))

module _ (layers : List (List ℕ)) (f : ℕ → List ℕ) where
  -- they are those of the tree
  pub layers-keys : (node : ℕ) (tops : List ℕ) → ((k : ℕ) → k < length tops → slice_index_or layers (node + k) [] ≡ f (slice_index tops k)) → map key_of (layers_from layers node tops) ≡ flat_map (λ top. map (λ layer. (top, layer)) (f top)) tops
  layers-keys node [] same = refl
  layers-keys node (top ∷ tops) same =
      map-append key_of (map (layer_at node top) (slice_index_or layers node [])) (layers_from layers (node + 1) tops)
      ∙ (ap (λ front. front ++ map key_of (layers_from layers (node + 1) tops)) (map-map key_of (layer_at node top) (slice_index_or layers node []) ∙ ap (map (λ layer. (top, layer))) first)
      ∙ ap (λ rest. map (λ layer. (top, layer)) (f top) ++ rest) (layers-keys (node + 1) tops later))
    where
      first : slice_index_or layers node [] ≡ f top
      first = let e : node + 0 ≡ node = omega arith in subst (λ n. slice_index_or layers n [] ≡ f top) e (same 0 (omega arith))

      later : (k : ℕ) → k < length tops → slice_index_or layers (node + 1 + k) [] ≡ f (slice_index tops k)
      later k below = let e : node + suc k ≡ node + 1 + k = omega arith in subst (λ n. slice_index_or layers n [] ≡ f (slice_index tops k)) e (same (suc k) (omega arith))

module _ (parts : Parts) where
  -- and each is one of its top
  one-top : (node top : ℕ) → node < length parts.tops → slice_index parts.tops node ≡ top → (layers : List ℕ) → AllByRecursion (λ layer. list_any (nat_eq layer) (slice_index_or parts.layers node []) ≡ true) layers → AllByRecursion (IsTopLayer parts) (map (layer_at node top) layers)
  one-top node top below is [] among = tt
  one-top node top below is (layer ∷ layers) among = (record { node = below; top_is = is; layer = among.0 }, one-top node top below is layers among.1)

  pub layers-within : (node : ℕ) (tops : List ℕ) → ((k : ℕ) → k < length tops → (node + k < length parts.tops) × (slice_index parts.tops (node + k) ≡ slice_index tops k)) → AllByRecursion (IsTopLayer parts) (layers_from parts.layers node tops)
  layers-within node [] same = tt
  layers-within node (top ∷ tops) same =
      each_append (IsTopLayer parts) (map (layer_at node top) (slice_index_or parts.layers node [])) (layers_from parts.layers (node + 1) tops)
      (one-top node top (let e : node + 0 ≡ node = omega arith in subst (λ n. n < length parts.tops) e (same 0 (omega arith)).0) (let e : node + 0 ≡ node = omega arith in subst (λ n. slice_index parts.tops n ≡ top) e (same 0 (omega arith)).1) (slice_index_or parts.layers node []) (each_member (slice_index_or parts.layers node [])))
      (layers-within (node + 1) tops (λ k below. let e : node + suc k ≡ node + 1 + k = omega arith in subst (λ n. (n < length parts.tops) × (slice_index parts.tops n ≡ slice_index tops k)) e (same (suc k) (omega arith))))

-- the layers of a programme's tops
pub programme-layers : (tree : Tree) (parts : Parts) → IsProgramme tree parts → (layers : List TopLayer) → layers ≡ layers_from parts.layers 0 parts.tops → map key_of layers ≡ layers_of tree
programme-layers tree parts is layers are =
    ap (map key_of) are
    ∙ (layers-keys parts.layers tree.layers 0 parts.tops (λ k below. let e : 0 + k ≡ k = omega arith in ap (λ n. slice_index_or parts.layers n []) e ∙ (ap (λ all. slice_index_or all k []) is.layers_are ∙ (get_or-map tree.layers tree.tops k 0 [] (subst (λ tops. k < length tops) is.tops_are below) ∙ ap (λ tops. tree.layers (slice_index tops k)) (sym is.tops_are))))
    ∙ ap (flat_map (λ top. map (λ layer. (top, layer)) (tree.layers top))) is.tops_are)

pub programme-within : (parts : Parts) (layers : List TopLayer) → layers ≡ layers_from parts.layers 0 parts.tops → AllByRecursion (IsTopLayer parts) layers
programme-within parts layers are = subst (AllByRecursion (IsTopLayer parts)) (sym are) (layers-within parts 0 parts.tops (λ k below. let e : 0 + k ≡ k = omega arith in (omega arith, ap (slice_index parts.tops) e)))
