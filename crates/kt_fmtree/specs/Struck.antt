-- The tree of the units that the losses of some ids come to.
-- The rule: docs/FINANCIAL_MODULE.md, "Levels".
use Rattle.std.specs.Prelude.{ℕ, zero, suc, Bool, cond, List, [], Option, None}
use Rattle.std.specs.List.{filter, list_any}
use Rattle.kt_fmtree.specs.Tree.{Tree, comes_to}

-- whether the losses of one of these ids come to a unit of a level
abbrev pub is_struck : Tree → List ℕ → ℕ → ℕ → Bool
is_struck tree ids level unit = list_any (comes_to tree level unit) ids

-- the unit that a unit's losses come to, where those of one of these ids come to the unit
abbrev pub struck_next : Tree → List ℕ → ℕ × ℕ → Option ℕ
struck_next tree ids (zero, unit) = None
struck_next tree ids (suc level, unit) = cond (is_struck tree ids level unit) (tree.next (suc level, unit)) None

-- the units whose losses come to a unit, and to which those of one of these ids do
abbrev pub struck_children : Tree → List ℕ → ℕ → ℕ → List ℕ
struck_children tree ids zero unit = []
struck_children tree ids (suc level) unit = filter (is_struck tree ids level) (tree.children (suc level) unit)

-- the tree of these units alone, with their terms and what they are worth as they were
abbrev pub struck : Tree → List ℕ → Tree
struck tree ids = record tree {
  ids = filter (is_struck tree ids 0) tree.ids;
  tops = filter (is_struck tree ids tree.top_level) tree.tops;
  next = struck_next tree ids;
  children = struck_children tree ids;
}
