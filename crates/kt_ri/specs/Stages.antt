-- Stages that cede losses, one after the other.
-- The rule: docs/FINANCIAL_MODULE.md, "Reinsurance".
use Rattle.std.specs.Prelude.{ℕ, ◌≤◌, List, [], ◌∷◌, length}
use Rattle.kt_fmtree.specs.Tree.{Tree}
use Rattle.kt_structure.specs.Structure.{IsStructure, kept_by}
use Rattle.kt_structure.specs.declared.structure.Structure.{Structure}

-- a structure is that of a tree, of which a top has at most 50 layers
pub record IsStage (tree : Tree) (stage : Structure) : Type 0 where
  pub is : IsStructure tree (kept_by stage)
  pub few : (top : ℕ) → length (tree.layers top) ≤ 50

-- there is such a tree
pub record HasStage (stage : Structure) : Type 0 where
  pub tree : Tree
  pub is : IsStage tree stage

-- structures are those of trees, in order
abbrev pub AreStages : List Tree → List Structure → Type 0
AreStages [] [] = Unit {0}
AreStages (tree ∷ trees) (stage ∷ later) = IsStage tree stage × AreStages trees later
AreStages trees later = ⊥
