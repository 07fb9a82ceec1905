-- The lists of a programme, and the tree whose lists they are.
-- The rule: docs/FINANCIAL_MODULE.md, "Levels".
use Rattle.std.specs.Prelude.{◌≡◌, ℕ, zero, suc, ◌+◌, ◌≤◌, ◌<◌, List, Vec, [], length, map, take, drop, All, slice_index, slice_index_or}
use Rattle.std.specs.declared.alloc.Global.{Global}
use Rattle.kt_rules.specs.declared.profile.Profile.{Profile}
use Rattle.kt_rec.specs.Rising.{IsRising}
use Rattle.kt_fmtree.specs.Tree.{Tree, IsTree, beneath}
use Rattle.kt_fmtree.specs.declared.node.Node.{Node}
use Rattle.kt_fmtree.specs.declared.programme.Programme.TheInside.{Inside}

-- the ids; the places of the ids among them in the order of the tree; the units of each level from level 1 up; the tops; and of
-- each top its layers, their terms, and the ids beneath it
pub record Parts : Type 0 where
  pub ids : List ℕ
  pub leaves : List ℕ
  pub levels : List (List Node)
  pub tops : List ℕ
  pub layers : List (List ℕ)
  pub terms : List (List Profile)
  pub beneath : List (List ℕ)

-- the lists of what a programme is made from
abbrev pub lists_of : Vec ℕ Global → Vec ℕ Global → Vec (Vec Node Global) Global → Vec ℕ Global → List (List ℕ) → List (List Profile) → List (List ℕ) → Parts
lists_of ids leaves levels tops layers terms beneath = record {
  ids = ids.items;
  leaves = leaves.items;
  levels = map (λ nodes. nodes.items) levels.items;
  tops = tops.items;
  layers = layers;
  terms = terms;
  beneath = beneath;
}

-- the lists of what is kept
abbrev pub parts_of : Inside → Parts
parts_of kept = lists_of kept.ids kept.leaves kept.levels kept.tops kept.layers kept.terms kept.beneath

-- the nodes of a level from level 1 up
abbrev pub nodes_at : Parts → ℕ → List Node
nodes_at parts zero = []
nodes_at parts (suc level) = slice_index_or parts.levels level []

-- the units of a level in the order of the tree
abbrev pub units_at : Parts → ℕ → List ℕ
units_at parts zero = map (slice_index parts.ids) parts.leaves
units_at parts (suc level) = map (λ node. node.unit) (nodes_at parts (suc level))

-- a node is that of its unit, and its children stand among the units of the level below
pub record IsNode (tree : Tree) (level : ℕ) (below : List ℕ) (node : Node) : Type 0 where
  pub within : node.start + node.width ≤ length below
  pub children_are : take node.width (drop node.start below) ≡ tree.children level node.unit
  pub tiv_is : node.tiv ≡ tree.tiv level node.unit
  pub profile_is : node.profile ≡ tree.profile level node.unit

-- the lists are those of a tree that hangs together
pub record IsProgramme (tree : Tree) (parts : Parts) : Type 0 where
  pub is : IsTree tree
  pub ids_are : parts.ids ≡ tree.ids
  pub ids_rise : IsRising parts.ids
  pub leaves_within : All (λ place. place < length parts.ids) parts.leaves
  pub levels_are : length parts.levels ≡ tree.top_level
  pub nodes_are : (level : ℕ) → level < tree.top_level → All (IsNode tree (suc level) (units_at parts level)) (nodes_at parts (suc level))
  pub tops_are : parts.tops ≡ tree.tops
  pub top_units : units_at parts tree.top_level ≡ tree.tops
  pub layers_are : parts.layers ≡ map tree.layers tree.tops
  pub terms_are : parts.terms ≡ map (λ top. map (tree.layer_profile top) (tree.layers top)) tree.tops
  pub beneath_are : parts.beneath ≡ map (beneath tree) tree.tops

-- there is a tree whose lists they are
pub record HasProgramme (parts : Parts) : Type 0 where
  pub tree : Tree
  pub is : IsProgramme tree parts
