-- What a programme is made from: links between units, and terms.
-- The rule: docs/FINANCIAL_MODULE.md, "Levels".
use Rattle.std.specs.Prelude.{◌≡◌, ℕ, zero, suc, ◌+◌, ◌*◌, ◌^◌, ◌<◌, ◌≤◌, cond, nat_eq, List, [], ◌∷◌, ◌++◌, length, map, Option, unwrap_or, option_map}
use Rattle.std.specs.List.{AllByRecursion, filter, filter_map, flat_map}
use Rattle.std.specs.Map.{lookup}
use Rattle.std.specs.HashMap.{get}
use Rattle.kt_rec.specs.declared.financial.FmPolicytc.{FmPolicytc}
use Rattle.kt_rec.specs.declared.financial.FmProfile.{FmProfile}
use Rattle.kt_keys.specs.Keys.{same_triple}
use Rattle.kt_keys.specs.Climbing.{climbed}
use Rattle.kt_rules.specs.declared.profile.Profile.{Profile}
use Rattle.kt_fmtree.specs.Programme.{terms_or_none, profile_with, with_id}
use Rattle.kt_rec.specs.Rising.{rising}
use Rattle.kt_fmtree.specs.Tree.{Tree, IsTree}
use Rattle.kt_keys.specs.UnitTable.{value_of}
use Rattle.kt_structure.specs.declared.links.Link.{Link}
use Rattle.kt_fmtree.specs.declared.node.Node.{Node}
use Rattle.kt_structure.specs.declared.plan.Plan.{Plan}
use Rattle.kt_structure.specs.declared.terms.Terms.{Terms}

-- the link of a child to a unit of a level
abbrev pub link_to : ℕ → ℕ → ℕ → Link
link_to level child unit = record { level = level; unit = unit; child = child }

-- the link of an id to the unit that its losses come to over so many levels, where they come to one: its level is 0
abbrev pub end_link : (ℕ × ℕ → Option ℕ) → ℕ → ℕ → Option Link
end_link next levels id = option_map (link_to 0 id) (climbed next levels 1 id)

-- that of an id one level up
abbrev pub end_up : (ℕ × ℕ → Option ℕ) → ℕ → Link → Option Link
end_up next level end = option_map (link_to 0 end.child) (next (level, end.unit))

-- the link of the unit that an id's losses have come to, to the unit of the next level that they come to
abbrev pub link_up : (ℕ × ℕ → Option ℕ) → ℕ → Link → Option Link
link_up next level end = option_map (link_to level end.unit) (next (level, end.unit))

-- the links of ids up to a level: one for each id that comes to a unit of a level
abbrev pub links_up : (ℕ × ℕ → Option ℕ) → List ℕ → ℕ → List Link
links_up next ids zero = []
links_up next ids (suc level) = links_up next ids level ++ filter_map (link_up next (suc level)) (filter_map (end_link next level) ids)

-- the key of a link: the level, and then the unit that losses come to
abbrev pub link_key : Link → ℕ
link_key row = row.level * 2 ^ 32 + row.unit

-- the link of a layer to its unit
abbrev pub layer_link : FmPolicytc → Link
layer_link row = record { level = row.level_id; unit = row.agg_id; child = row.layer_id }

-- what links have for a unit of a level, rising
abbrev pub linked : List Link → ℕ → ℕ → List ℕ
linked links level unit = rising (map (λ row. row.child) (filter (λ row. nat_eq (link_key row) (level * 2 ^ 32 + unit)) links))

-- the profile of a row for its unit, by level and unit
abbrev pub first_pair : FmPolicytc → (ℕ × ℕ) × ℕ
first_pair row = ((row.level_id, row.agg_id), row.policytc_id)

-- and by layer, level and unit
abbrev pub unit_pair : FmPolicytc → (ℕ × ℕ × ℕ) × ℕ
unit_pair row = ((row.layer_id, row.level_id, row.agg_id), row.policytc_id)

-- the profile of a layer of a unit of a level, where it has one
abbrev pub found_id : Terms → ℕ → ℕ → ℕ → Option ℕ
found_id terms layer level unit = cond (nat_eq layer 1) (value_of terms.first (level, unit)) (get same_triple terms.others (layer, level, unit))

-- the terms are those of the tables
pub record AreTerms (policytc : List FmPolicytc) (profiles : List FmProfile) (terms : Terms) : Type 0 where
  pub units : (layer level unit : ℕ) → found_id terms layer level unit ≡ lookup (same_triple (layer, level, unit)) (map unit_pair policytc)
  pub ids : (id : ℕ) → get nat_eq terms.by_id id ≡ profile_with profiles id

-- the terms of a layer of a unit of a level
abbrev pub found_terms : Terms → ℕ → ℕ → ℕ → Profile
found_terms terms layer level unit = terms_or_none (with_id (found_id terms layer level unit) (get nat_eq terms.by_id))

-- ---- levels

-- what the distinct coverages beneath a unit of a level are worth, as it was found
abbrev pub found_tiv : Plan → ℕ → ℕ → ℕ
found_tiv plan level unit = unwrap_or (value_of plan.tivs.now (level, unit)) 0

-- the units whose losses come to a unit of a level, as they were found
abbrev pub kids : Plan → ℕ → ℕ → List ℕ
kids plan level unit = linked plan.links.now level unit

-- a unit of a level, with so many children from a place on
abbrev pub new_node : Plan → ℕ → ℕ → ℕ → ℕ → Node
new_node plan level unit start width = record {
  unit = unit;
  start = start;
  width = width;
  tiv = found_tiv plan level unit;
  profile = found_terms plan.terms.now 1 level unit;
}

-- units of a level, whose children stand one behind the other from a place on
abbrev pub nodes_from : Plan → ℕ → ℕ → List ℕ → List Node
nodes_from plan level start [] = []
nodes_from plan level start (unit ∷ units) =
    new_node plan level unit start (length (kids plan level unit)) ∷ nodes_from plan level (start + length (kids plan level unit)) units

-- the nodes of the levels from level 1 up to one with these units
abbrev pub build_levels : Plan → ℕ → List ℕ → List (List Node)
build_levels plan zero units = []
build_levels plan (suc level) units = build_levels plan level (flat_map (kids plan (suc level)) units) ++ nodes_from plan (suc level) 0 units ∷ []

-- the ids beneath units of a level, in the order of the tree
abbrev pub build_leaves : Plan → ℕ → List ℕ → List ℕ
build_leaves plan zero units = units
build_leaves plan (suc level) units = build_leaves plan level (flat_map (kids plan (suc level)) units)

-- ---- what a tree is found from

-- the plan finds what a tree has
pub record Finds (tree : Tree) (plan : Plan) : Type 0 where
  pub is : IsTree tree
  pub children_are : (level unit : ℕ) → 1 ≤ level → level ≤ tree.top_level → unit < 2 ^ 32 → kids plan level unit ≡ tree.children level unit
  pub kids_small : (level unit : ℕ) → AllByRecursion (λ kid. kid < 2 ^ 32) (kids plan level unit)
  pub profiles_are : (level unit : ℕ) → found_terms plan.terms.now 1 level unit ≡ tree.profile level unit
  pub layers_are : (top layer : ℕ) → found_terms plan.terms.now layer tree.top_level top ≡ tree.layer_profile top layer
  pub tivs_are : (level unit : ℕ) → 1 ≤ level → level ≤ tree.top_level → found_tiv plan level unit ≡ tree.tiv level unit
