-- What the units of a programme carry, as lists.
-- The rule: docs/FINANCIAL_MODULE.md, "Levels".
use Rattle.std.specs.Prelude.{◌≡◌, ℕ, zero, suc, ◌+◌, ◌-◌, ◌≤◌, ◌<◌, ◌^◌, cond, nat_eq, List, [], ◌∷◌, length, map, take, drop, All, slice_index, slice_index_or}
use Rattle.std.specs.List.{range_with_len, sum, sum_by}
use Rattle.kt_rules.specs.Amounts.{total}
use Rattle.kt_rules.specs.Profiles.{IsProfile}
use Rattle.kt_rules.specs.Rules.{applied}
use Rattle.kt_rules.specs.declared.carry.Carry.{Carry}
use Rattle.kt_fmtree.specs.Tree.{Tree, whole_loss, add_carries, carry_of, base_of}
use Rattle.kt_fmtree.specs.Parts.{Parts, IsProgramme, units_at}
use Rattle.kt_fmtree.specs.declared.node.Node.{Node}
use Rattle.kt_fmtree.specs.declared.levels.Levels.TheInside.{Inside}

-- of each level below the top level what its units carry, in the order of the tree, and what comes to each top
pub record Carried : Type 0 where
  pub rows : List (List Carry)
  pub bases : List Carry

-- the lists of what is kept
abbrev pub carried_rows : Inside → Carried
carried_rows kept = record { rows = map (λ row. row.items) kept.rows.items; bases = kept.bases.items }

-- amounts, added
abbrev pub added : List Carry → Carry
added [] = whole_loss 0
added (carry ∷ carries) = add_carries carry (added carries)

-- what comes to a node, from what the level below carries
abbrev pub child_sum : List Carry → Node → Carry
child_sum below node = added (take node.width (drop node.start below))

-- what a node carries
abbrev pub node_carry : List Carry → Node → Carry
node_carry below node = applied node.profile node.tiv (child_sum below node)

-- a node's children stand below it, what they carry is not too much, and its terms are a profile
pub record CanCarry (below : List Carry) (node : Node) : Type 0 where
  pub within : node.start + node.width ≤ length below
  pub few : sum_by total (take node.width (drop node.start below)) ≤ 10 ^ 16
  pub profile : IsProfile node.profile
  pub value : node.tiv ≤ 10 ^ 14

-- the losses of ids, by their places
abbrev pub loss_by : List ℕ → List ℕ → ℕ → ℕ
loss_by (id ∷ ids) (loss ∷ losses) other = cond (nat_eq id other) loss (loss_by ids losses other)
loss_by ids losses other = 0

-- what the ids carry in the order of the tree, from their losses
abbrev pub leaf_row : List ℕ → List ℕ → List Carry
leaf_row leaves losses = map (λ place. whole_loss (slice_index losses place)) leaves

-- what the units of a level carry, from what the ids do
abbrev pub row_from : List (List Node) → List Carry → ℕ → List Carry
row_from levels leaves zero = leaves
row_from levels leaves (suc level) = map (node_carry (row_from levels leaves level)) (slice_index_or levels level [])

-- what the units of a level carry, from the losses of the ids
abbrev pub row_of : Parts → List ℕ → ℕ → List Carry
row_of parts losses level = row_from parts.levels (leaf_row parts.leaves losses) level

-- each level up to a last one can be carried to
pub record CanClimb (levels : List (List Node)) (leaves : List Carry) (last : ℕ) : Type 0 where
  pub each : (level : ℕ) → level < last → All (CanCarry (row_from levels leaves level)) (slice_index_or levels level [])

-- what the units of all levels but the last carry, and what comes to those of the last
abbrev pub climbed_rows : List (List Node) → List Carry → Carried
climbed_rows levels leaves = record {
  rows = map (row_from levels leaves) (range_with_len 0 (length levels));
  bases = map (child_sum (row_from levels leaves (length levels - 1))) (slice_index_or levels (length levels - 1) []);
}

-- the amounts are those of a tree, for the losses of its ids
pub record AreCarried (tree : Tree) (loss : ℕ → ℕ) (parts : Parts) (carried : Carried) : Type 0 where
  pub rows_are : (level : ℕ) → level < tree.top_level → slice_index_or carried.rows level [] ≡ map (carry_of tree loss level) (units_at parts level)
  pub bases_are : carried.bases ≡ map (base_of tree loss tree.top_level) tree.tops

-- the amounts are those of a programme, for losses that add to at most 10^16
pub record IsCarriedBy (parts : Parts) (carried : Carried) : Type 0 where
  pub tree : Tree
  pub loss : ℕ → ℕ
  pub is : IsProgramme tree parts
  pub carried_are : AreCarried tree loss parts carried
  pub few : sum (map loss tree.ids) ≤ 10 ^ 16
