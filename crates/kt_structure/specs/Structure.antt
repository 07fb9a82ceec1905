-- The structure of a programme, and the tree whose it is.
-- The rule: docs/FINANCIAL_MODULE.md, "Levels".
use Rattle.std.specs.Prelude.{◌≡◌, ℕ, ◌≤◌, ◌<◌, ◌^◌, true, nat_eq, List, Option, None, Some, unwrap_or}
use Rattle.std.specs.List.{AllByRecursion, list_any}
use Rattle.kt_keys.specs.Climbing.{climbed}
use Rattle.kt_rules.specs.declared.profile.Profile.{Profile}
use Rattle.kt_fmtree.specs.Programme.{or_first}
use Rattle.kt_rec.specs.Rising.{IsRising}
use Rattle.kt_fmtree.specs.Tree.{Tree, IsTree, beneath}
use Rattle.kt_structure.specs.Plan.{found_terms, linked}
use Rattle.kt_keys.specs.UnitTable.{value_of}
use Rattle.kt_structure.specs.declared.links.Link.{Link}
use Rattle.kt_structure.specs.declared.structure.Structure.{Structure}

-- the level of the tops; the unit of the next level that a unit's losses come to; the terms of a layer of a unit of a level; what
-- the distinct coverages beneath a unit of a level are worth; and the layers of a top
pub record Kept : Type 0 where
  pub top_level : ℕ
  pub next : ℕ × ℕ → Option ℕ
  pub terms : ℕ → ℕ → ℕ → Profile
  pub tiv : ℕ → ℕ → ℕ
  pub layers : ℕ → List ℕ

-- what a structure keeps
abbrev pub kept_by : Structure → Kept
kept_by kept = record {
  top_level = kept.top_level;
  next = value_of kept.next;
  terms = found_terms kept.terms;
  tiv = λ level unit. unwrap_or (value_of kept.tivs (level, unit)) 0;
  layers = λ top. or_first (linked kept.layers kept.top_level top);
}

-- a structure is that of a tree: it has what the tree has, the tree's ids are those whose losses come to a unit, its tops are
-- those that losses reach, and all rise
pub record IsStructure (tree : Tree) (kept : Kept) : Type 0 where
  pub is : IsTree tree
  pub top_level_is : kept.top_level ≡ tree.top_level
  pub next_is : kept.next ≡ tree.next
  pub profiles_are : (level unit : ℕ) → kept.terms 1 level unit ≡ tree.profile level unit
  pub layer_profiles_are : (top layer : ℕ) → kept.terms layer tree.top_level top ≡ tree.layer_profile top layer
  pub tivs_are : (level unit : ℕ) → 1 ≤ level → level ≤ tree.top_level → kept.tiv level unit ≡ tree.tiv level unit
  pub layers_are : (top : ℕ) → top < 2 ^ 32 → kept.layers top ≡ tree.layers top
  pub small : (key : ℕ × ℕ) (unit : ℕ) → tree.next key ≡ Some unit → unit < 2 ^ 32
  pub taken : (id : ℕ) → list_any (nat_eq id) tree.ids ≡ true → tree.next (1, id) ≡ None → ⊥
  pub reached : (id top : ℕ) → climbed tree.next tree.top_level 1 id ≡ Some top → list_any (nat_eq top) tree.tops ≡ true
  pub ids_rise : IsRising tree.ids
  pub tops_rise : IsRising tree.tops
  pub children_rise : (level unit : ℕ) → IsRising (tree.children level unit)

-- there is a tree whose structure it is
pub record HasStructure (kept : Kept) : Type 0 where
  pub tree : Tree
  pub is : IsStructure tree kept

-- the links between units and those of ids to tops, the ids and the tops are those of a tree, of which the structure has all else
pub record Fits (tree : Tree) (kept : Kept) (links ends : List Link) (ids tops : List ℕ) : Type 0 where
  pub is : IsTree tree
  pub top_level_is : kept.top_level ≡ tree.top_level
  pub profiles_are : (level unit : ℕ) → kept.terms 1 level unit ≡ tree.profile level unit
  pub layer_profiles_are : (top layer : ℕ) → kept.terms layer tree.top_level top ≡ tree.layer_profile top layer
  pub tivs_are : (level unit : ℕ) → 1 ≤ level → level ≤ tree.top_level → kept.tiv level unit ≡ tree.tiv level unit
  pub layers_are : (top : ℕ) → top < 2 ^ 32 → kept.layers top ≡ tree.layers top
  pub children_are : (level unit : ℕ) → 1 ≤ level → level ≤ tree.top_level → unit < 2 ^ 32 → linked links level unit ≡ tree.children level unit
  pub children_fit : (level unit : ℕ) → AllByRecursion (λ child. child < 2 ^ 32) (linked links level unit)
  pub ids_are : ids ≡ tree.ids
  pub ids_rise : IsRising ids
  pub tops_are : tops ≡ tree.tops
  pub tops_fit : AllByRecursion (λ top. top < 2 ^ 32) tops
  pub beneath_are : (top : ℕ) → linked ends 0 top ≡ beneath tree top

-- there is a tree whose they are
pub record HasFit (kept : Kept) (links ends : List Link) (ids tops : List ℕ) : Type 0 where
  pub tree : Tree
  pub fits : Fits tree kept links ends ids tops
