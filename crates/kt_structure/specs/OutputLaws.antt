-- An output stands for each layer of the tree of the base: what check 16 says, in the words of the tree.
-- The rules: docs/CHECKS.md, "Outputs for every layer"; docs/FINANCIAL_MODULE.md, "Levels".
use Rattle.std.specs.Prelude.{◌≡◌, ℕ, ◌&&◌, ◌||◌, Bool, true, false, cond, nat_eq, List, [], ◌∷◌, map, Some}
use Rattle.std.specs.Cmp.{nat_eq_equiv}
use Rattle.std.specs.List.{filter, list_any}
use Rattle.std.proofs.Common.{refl, sym, ap, ◌∙◌}
use Rattle.kt_rec.specs.Rows.{Rows}
use Rattle.kt_rec.specs.declared.financial.FmPolicytc.{FmPolicytc}
use Rattle.kt_rec.specs.declared.financial.FmProgramme.{FmProgramme}
use Rattle.kt_keys.specs.Keys.{policytc_of, programme_of, same_pair}
use Rattle.kt_keys.specs.Units.{top_level, top_targets}
use Rattle.kt_checks.specs.KeptChecks.{KeepsOutputs, taken_ids}
use Rattle.kt_keys.specs.Climbing.{climbed}
use Rattle.kt_checks.specs.OutputChecks.{has_output, has_top_layer}
use Rattle.kt_fmtree.specs.Programme.{layers_in, or_first, tree_of}
use Rattle.kt_rec.specs.Rising.{put, rising, rising-member}

-- by rules 1 and 2 each id has an output for every layer of the top that its losses come to, by rule 0 each top for every layer of
-- its own
pub record HasOutputs (rows : Rows) (rule : ℕ) : Type 0 where
  pub of_ids : nat_eq rule 0 ≡ false → (id top layer : ℕ) → list_any (nat_eq id) (tree_of rows 0).ids ≡ true → climbed (tree_of rows 0).next (tree_of rows 0).top_level 1 id ≡ Some top → list_any (nat_eq layer) ((tree_of rows 0).layers top) ≡ true → has_output rows.fm_xref (id, layer) ≡ true
  pub of_tops : nat_eq rule 0 ≡ true → (top layer : ℕ) → list_any (nat_eq top) (tree_of rows 0).tops ≡ true → list_any (nat_eq layer) ((tree_of rows 0).layers top) ≡ true → has_output rows.fm_xref (top, layer) ≡ true

-- whether a list has something
abbrev some : List ℕ → Bool
some [] = false
some (id ∷ ids) = true

-- layers of a unit, or else layer 1, by rising number
layers-member : (layers : List ℕ) (layer : ℕ) → list_any (nat_eq layer) (or_first (rising layers)) ≡ cond (some layers) (list_any (nat_eq layer) layers) (nat_eq layer 1)
layers-member [] layer = nothing (nat_eq layer 1)
  where
    nothing : (b : Bool) → (b || false) ≡ b
    nothing true = refl
    nothing false = refl
layers-member (first ∷ layers) layer = ap (list_any (nat_eq layer)) (put-some (rising layers)) ∙ rising-member (first ∷ layers) layer
  where
    by : (below same : Bool) (next : ℕ) (ids : List ℕ) → or_first (cond below (first ∷ (next ∷ ids)) (cond same (next ∷ ids) (next ∷ put first ids))) ≡ cond below (first ∷ (next ∷ ids)) (cond same (next ∷ ids) (next ∷ put first ids))
    by true same next ids = refl
    by false true next ids = refl
    by false false next ids = refl

    put-some : (ids : List ℕ) → or_first (put first ids) ≡ put first ids
    put-some [] = refl
    put-some (next ∷ ids) = by _ _ next ids

module _ (top unit : ℕ) where
  -- the layers of the rows of a unit of the level
  abbrev of_unit : List FmPolicytc → List ℕ
  of_unit policytc = map (λ row. row.layer_id) (filter (λ row. nat_eq row.level_id top && nat_eq row.agg_id unit) policytc)

  -- the units of the level with their layers
  abbrev of_level : List FmPolicytc → List (ℕ × ℕ)
  of_level policytc = map (λ row. (row.agg_id, row.layer_id)) (filter (λ row. nat_eq row.level_id top) policytc)

  -- a layer is of the unit where the pair of both is of the level
  pair-member : (layer : ℕ) (policytc : List FmPolicytc) → list_any (same_pair (unit, layer)) (of_level policytc) ≡ list_any (nat_eq layer) (of_unit policytc)
  pair-member layer [] = refl
  pair-member layer (row ∷ policytc) = by (nat_eq row.level_id top) (nat_eq row.agg_id unit) (nat_eq_equiv.symm unit row.agg_id) (pair-member layer policytc)
    where
      by : (a b : Bool) → nat_eq unit row.agg_id ≡ b → list_any (same_pair (unit, layer)) (of_level policytc) ≡ list_any (nat_eq layer) (of_unit policytc) → list_any (same_pair (unit, layer)) (map (λ x. (x.agg_id, x.layer_id)) (cond a (row ∷ filter (λ x. nat_eq x.level_id top) policytc) (filter (λ x. nat_eq x.level_id top) policytc))) ≡ list_any (nat_eq layer) (map (λ x. x.layer_id) (cond (a && b) (row ∷ filter (λ x. nat_eq x.level_id top && nat_eq x.agg_id unit) policytc) (filter (λ x. nat_eq x.level_id top && nat_eq x.agg_id unit) policytc)))
      by true true is rest = ap (λ same. (same && nat_eq layer row.layer_id) || list_any (same_pair (unit, layer)) (of_level policytc)) is ∙ ap (λ later. nat_eq layer row.layer_id || later) rest
      by true false is rest = ap (λ same. (same && nat_eq layer row.layer_id) || list_any (same_pair (unit, layer)) (of_level policytc)) is ∙ rest
      by false b is rest = rest

  -- the unit has terms where it has a layer
  unit-some : (policytc : List FmPolicytc) → list_any (nat_eq unit) (map (λ pair. pair.0) (of_level policytc)) ≡ some (of_unit policytc)
  unit-some [] = refl
  unit-some (row ∷ policytc) = by (nat_eq row.level_id top) (nat_eq row.agg_id unit) (nat_eq_equiv.symm unit row.agg_id) (unit-some policytc)
    where
      by : (a b : Bool) → nat_eq unit row.agg_id ≡ b → list_any (nat_eq unit) (map (λ pair. pair.0) (of_level policytc)) ≡ some (of_unit policytc) → list_any (nat_eq unit) (map (λ (pair : ℕ × ℕ). pair.0) (map (λ x. (x.agg_id, x.layer_id)) (cond a (row ∷ filter (λ x. nat_eq x.level_id top) policytc) (filter (λ x. nat_eq x.level_id top) policytc)))) ≡ some (map (λ x. x.layer_id) (cond (a && b) (row ∷ filter (λ x. nat_eq x.level_id top && nat_eq x.agg_id unit) policytc) (filter (λ x. nat_eq x.level_id top && nat_eq x.agg_id unit) policytc)))
      by true true is rest = ap (λ b. b || list_any (nat_eq unit) (map (λ pair. pair.0) (of_level policytc))) is
      by true false is rest = ap (λ b. b || list_any (nat_eq unit) (map (λ pair. pair.0) (of_level policytc))) is ∙ rest
      by false b is rest = rest

-- the layers of a top of the tree are those of its terms, or layer 1
pub layers-are : (programme : List FmProgramme) (policytc : List FmPolicytc) (unit layer : ℕ) → list_any (nat_eq layer) (layers_in policytc (top_level programme) unit) ≡ has_top_layer programme policytc unit layer
layers-are programme policytc unit layer =
    layers-member (of_unit (top_level programme) unit policytc) layer
    ∙ (ap (λ b. cond b (list_any (nat_eq layer) (of_unit (top_level programme) unit policytc)) (nat_eq layer 1)) (sym (unit-some (top_level programme) unit policytc))
    ∙ ap (λ has. cond (list_any (nat_eq unit) (map (λ pair. pair.0) (of_level (top_level programme) unit policytc))) has (nat_eq layer 1)) (sym (pair-member (top_level programme) unit layer policytc)))

-- an output stands for each layer of the tree
pub outputs_of-tree : (rows : Rows) (rule : ℕ) → KeepsOutputs rows rule → HasOutputs rows rule
outputs_of-tree rows rule keeps = record {
  of_ids = λ other id top layer taken climbs has. keeps.of_items other id top layer (sym (rising-member (taken_ids (programme_of rows 0)) id) ∙ taken) climbs (sym (layers-are (programme_of rows 0) (policytc_of rows 0) top layer) ∙ has);
  of_tops = λ zero_rule top layer is_top has. keeps.of_units zero_rule top layer (sym (rising-member (top_targets (programme_of rows 0)) top) ∙ is_top) (sym (layers-are (programme_of rows 0) (policytc_of rows 0) top layer) ∙ has);
}
