-- The tree of the tables of a programme: the base's, or those of a reinsurance stage.
-- The rules: docs/FINANCIAL_MODULE.md, "Levels", "Policy losses".
use Rattle.std.specs.Prelude.{ℕ, ◌&&◌, Bool, cond, nat_eq, List, [], ◌∷◌, map, Option, Some, None}
use Rattle.std.specs.List.{filter, list_any, sum_by}
use Rattle.std.specs.Map.{lookup}
use Rattle.kt_rec.specs.Rows.{Rows}
use Rattle.kt_rec.specs.declared.exposure.Item.{Item}
use Rattle.kt_rec.specs.declared.financial.FmProgramme.{FmProgramme}
use Rattle.kt_rec.specs.declared.financial.FmPolicytc.{FmPolicytc}
use Rattle.kt_rec.specs.declared.financial.FmProfile.{FmProfile}
use Rattle.kt_keys.specs.Keys.{programme_of, policytc_of, profile_of as profiles_of, same_triple}
use Rattle.kt_keys.specs.Units.{top_level, top_targets}
use Rattle.kt_keys.specs.Climbing.{climbed, next_unit}
use Rattle.kt_rules.specs.Profiles.{profile_of}
use Rattle.kt_rules.specs.declared.profile.Profile.{Profile}
use Rattle.kt_rec.specs.Rising.{rising}
use Rattle.kt_fmtree.specs.Tree.{Tree, is_unit}

-- ---- units

-- the ids whose losses a programme takes, rising
abbrev pub ids_in : List FmProgramme → List ℕ
ids_in programme = rising (map (λ row. row.from_agg_id) (filter (λ row. nat_eq row.level_id 1) programme))

-- the units whose losses come to a unit of a level, rising
abbrev pub children_in : List FmProgramme → ℕ → ℕ → List ℕ
children_in programme level unit = rising (map (λ row. row.from_agg_id) (filter (λ row. nat_eq row.level_id level && nat_eq row.to_agg_id unit) programme))

-- ---- terms

-- no terms: a rule that leaves each loss as it is
abbrev pub no_terms : Profile
no_terms = record { rule = 100; ded1 = 0; ded2 = 0; ded3 = 0; att1 = 0; lim1 = 0; share1 = 0; share2 = 0; share3 = 0 }

-- the terms of a profile that may be absent
abbrev pub terms_or_none : Option Profile → Profile
terms_or_none None = no_terms
terms_or_none (Some terms) = terms

-- the terms of a profile by its id
abbrev pub profile_with : List FmProfile → ℕ → Option Profile
profile_with profiles id = lookup (nat_eq id) (map (λ row. (row.policytc_id, profile_of row)) profiles)

-- what follows an id that may be absent
abbrev pub with_id : Option ℕ → (ℕ → Option Profile) → Option Profile
with_id None found = None
with_id (Some id) found = found id

-- the terms of a layer of a unit of a level; none where it has no row
abbrev pub terms_in : List FmPolicytc → List FmProfile → ℕ → ℕ → ℕ → Profile
terms_in policytc profiles layer level unit =
    terms_or_none (with_id (lookup (same_triple (layer, level, unit)) (map (λ row. ((row.layer_id, row.level_id, row.agg_id), row.policytc_id)) policytc)) (profile_with profiles))

-- layer 1, where there is none
abbrev pub or_first : List ℕ → List ℕ
or_first [] = 1 ∷ []
or_first (layer ∷ layers) = layer ∷ layers

-- the layers of a unit of the top level, rising; layer 1 where it has no terms
abbrev pub layers_in : List FmPolicytc → ℕ → ℕ → List ℕ
layers_in policytc level unit = or_first (rising (map (λ row. row.layer_id) (filter (λ row. nat_eq row.level_id level && nat_eq row.agg_id unit) policytc)))

-- ---- coverages

-- the coverage of an item
abbrev pub coverage_of : List Item → ℕ → Option ℕ
coverage_of items id = lookup (nat_eq id) (map (λ row. (row.item_id, row.coverage_id)) items)

-- the ids whose losses may come in, with their coverages: items for the base, and for a stage the base's outputs, which are of the
-- coverages of their items
abbrev pub covered_ids : Rows → ℕ → List (ℕ × Option ℕ)
covered_ids rows stage = cond (nat_eq stage 0) (map (λ row. (row.item_id, Some row.coverage_id)) rows.items) (map (λ row. (row.output_id, coverage_of rows.items row.agg_id)) rows.fm_xref)

-- whether a coverage is of an id whose losses come to a unit of a level
abbrev pub has_coverage : List (ℕ × Option ℕ) → (ℕ × ℕ → Option ℕ) → ℕ → ℕ → ℕ → Bool
has_coverage covered next level unit coverage = list_any (λ (pair : ℕ × Option ℕ). is_unit unit (climbed next level 1 pair.0) && is_unit coverage pair.1) covered

-- what the distinct coverages beneath a unit of a level are worth
abbrev pub tiv_beneath : Rows → ℕ → ℕ → ℕ → ℕ
tiv_beneath rows stage level unit = sum_by (λ row. cond (has_coverage (covered_ids rows stage) (next_unit (programme_of rows stage)) level unit row.coverage_id) row.tiv 0) rows.coverages

-- ---- the tree

-- the tree of the base, at 0, or of a stage
abbrev pub tree_of : Rows → ℕ → Tree
tree_of rows stage = record {
  top_level = top_level (programme_of rows stage);
  ids = ids_in (programme_of rows stage);
  tops = rising (top_targets (programme_of rows stage));
  next = next_unit (programme_of rows stage);
  children = children_in (programme_of rows stage);
  profile = terms_in (policytc_of rows stage) (profiles_of rows stage) 1;
  tiv = tiv_beneath rows stage;
  layers = layers_in (policytc_of rows stage) (top_level (programme_of rows stage));
  layer_profile = λ top layer. terms_in (policytc_of rows stage) (profiles_of rows stage) layer (top_level (programme_of rows stage)) top;
}
