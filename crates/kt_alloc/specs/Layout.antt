-- Where the loss of each output stands in a row of shares.
-- The rule: docs/FINANCIAL_MODULE.md, "Insured losses".
use Rattle.std.specs.Prelude.{◌≡◌, ℕ, cond, nat_eq, List, [], ◌∷◌, length, map, option_map, Option}
use Rattle.std.specs.List.{AllByRecursion, filter_map, flat_map, range_with_len, zip}
use Rattle.std.specs.Map.{lookup}
use Rattle.kt_rec.specs.declared.financial.FmXref.{FmXref}
use Rattle.kt_keys.specs.Keys.{same_pair}
use Rattle.kt_fmtree.specs.Tree.{Tree, beneath}
use Rattle.kt_fmtree.specs.Parts.{Parts}
use Rattle.kt_levels.specs.Layers.{IsTopLayer, key_of}
use Rattle.kt_levels.specs.Shares.{layers_of}
use Rattle.kt_levels.specs.declared.layers.TopLayer.{TopLayer}
use Rattle.kt_alloc.specs.Insured.{in_order}
use Rattle.kt_alloc.specs.declared.outlets.Outlet.{Outlet}
use Rattle.kt_alloc.specs.declared.layout.Layout.TheInside.{Inside}

-- who has shares of the policy losses of a top: by rule 0 the top, by rules 1 and 2 the ids beneath it
abbrev pub owners : Tree → ℕ → ℕ → List ℕ
owners tree rule top = cond (nat_eq rule 0) (top ∷ []) (beneath tree top)

-- the units and layers that have shares, for some layers of tops
abbrev pub keys_for : Tree → ℕ → List (ℕ × ℕ) → List (ℕ × ℕ)
keys_for tree rule layers = flat_map (λ key. map (λ owner. (owner, key.1)) (owners tree rule key.0)) layers

-- for all
abbrev pub keys : Tree → ℕ → List (ℕ × ℕ)
keys tree rule = keys_for tree rule (layers_of tree)

-- the first place of a unit and layer among such
abbrev pub place_in : List (ℕ × ℕ) → ℕ × ℕ → Option ℕ
place_in keys key = lookup (same_pair key) (zip keys (range_with_len 0 (length keys)))

-- an output with its place, where it has one
abbrev pub outlet_of : List (ℕ × ℕ) → FmXref → Option Outlet
outlet_of keys output = option_map (λ place. record { id = output.output_id; place = place }) (place_in keys (output.agg_id, output.layer_id))

-- the rule of allocation, the layers, and the outputs with their places
pub record Laid : Type 0 where
  pub rule : ℕ
  pub layers : List TopLayer
  pub outlets : List Outlet

-- the lists of what is kept
abbrev pub laid_out : Inside → Laid
laid_out kept = record { rule = kept.rule; layers = kept.layers.items; outlets = kept.outlets.items }

-- a layout is that of a tree, whose lists the parts are, and outputs
pub record IsLayout (tree : Tree) (outputs : List FmXref) (parts : Parts) (layout : Laid) : Type 0 where
  pub layers_are : map key_of layout.layers ≡ layers_of tree
  pub layers_within : AllByRecursion (IsTopLayer parts) layout.layers
  pub outlets_are : layout.outlets ≡ filter_map (outlet_of (keys tree layout.rule)) (in_order outputs)
