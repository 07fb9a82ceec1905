-- The layers of the tops of a programme, with the places of the tops.
-- The rule: docs/FINANCIAL_MODULE.md, "Policy losses".
use Rattle.std.specs.Prelude.{◌≡◌, ℕ, ◌+◌, ◌<◌, true, nat_eq, List, [], ◌∷◌, ◌++◌, length, map, slice_index, slice_index_or}
use Rattle.std.specs.List.{list_any}
use Rattle.kt_fmtree.specs.Parts.{Parts}
use Rattle.kt_levels.specs.declared.layers.TopLayer.{TopLayer}

-- the layers of tops whose places begin at one
abbrev pub layers_from : List (List ℕ) → ℕ → List ℕ → List TopLayer
layers_from layers node [] = []
layers_from layers node (top ∷ tops) = map (λ layer. record { node = node; top = top; layer = layer }) (slice_index_or layers node []) ++ layers_from layers (node + 1) tops

-- the top and the layer
abbrev pub key_of : TopLayer → ℕ × ℕ
key_of one = (one.top, one.layer)

-- a layer is one of its top
pub record IsTopLayer (parts : Parts) (one : TopLayer) : Type 0 where
  pub node : one.node < length parts.tops
  pub top_is : slice_index parts.tops one.node ≡ one.top
  pub layer : list_any (nat_eq one.layer) (slice_index_or parts.layers one.node []) ≡ true
