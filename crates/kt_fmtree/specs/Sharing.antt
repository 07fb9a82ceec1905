-- How a policy loss is shared back to the ids beneath it.
-- The rules: docs/FINANCIAL_MODULE.md, "Allocation".
use Rattle.std.specs.Prelude.{ℕ, zero, suc, cond, nat_eq, List, [], ◌∷◌, map}
use Rattle.std.specs.List.{flat_map, sum_by}
use Rattle.kt_money.specs.Sharing.{share_out}
use Rattle.kt_fmtree.specs.Tree.{Tree, carry_of, ground_up, policy_loss, beneath}

-- ---- by ground-up losses, at once

-- a policy loss, shared out by the ground-up losses of the ids beneath, in order of id
abbrev pub shared_at_once : Tree → (ℕ → ℕ) → ℕ → ℕ → List ℕ
shared_at_once tree losses top layer = share_out (policy_loss tree losses top layer) (map losses (beneath tree top))

-- ---- down the tree, by what was carried

-- the part of a policy loss that a unit has
pub record Part : Type 0 where
  pub unit : ℕ
  pub amount : ℕ

-- units with their amounts, in order
abbrev pub parts_for : List ℕ → List ℕ → List Part
parts_for (unit ∷ units) (amount ∷ amounts) = record { unit = unit; amount = amount } ∷ parts_for units amounts
parts_for units amounts = []

-- the losses that units of a level carry, added
abbrev pub carried_loss : Tree → (ℕ → ℕ) → ℕ → List ℕ → ℕ
carried_loss tree losses level units = sum_by (λ unit. (carry_of tree losses level unit).loss) units

-- the weight of a unit among those that share a part: the loss that it carries where they carry any, else its ground-up loss
abbrev pub weight_of : Tree → (ℕ → ℕ) → ℕ → List ℕ → ℕ → ℕ
weight_of tree losses level units unit = cond (nat_eq (carried_loss tree losses level units) 0) (ground_up tree losses level unit) (carry_of tree losses level unit).loss

-- what the part of a unit gives to its children, which are of this level
abbrev pub passed_down : Tree → (ℕ → ℕ) → ℕ → Part → List Part
passed_down tree losses level part =
    let units = tree.children (suc level) part.unit in
    parts_for units (share_out part.amount (map (weight_of tree losses level units) units))

-- what parts of units of a level give to the ids beneath them
abbrev pub id_parts : Tree → (ℕ → ℕ) → ℕ → List Part → List Part
id_parts tree losses zero parts = parts
id_parts tree losses (suc level) parts = id_parts tree losses level (flat_map (passed_down tree losses level) parts)

-- what an id has of parts
abbrev pub part_of : List Part → ℕ → ℕ
part_of parts id = sum_by (λ part. cond (nat_eq part.unit id) part.amount 0) parts

-- the parts of the ids of a policy loss
abbrev pub policy_parts : Tree → (ℕ → ℕ) → ℕ → ℕ → List Part
policy_parts tree losses top layer = id_parts tree losses tree.top_level (record { unit = top; amount = policy_loss tree losses top layer } ∷ [])

-- a policy loss, shared down the tree to the ids beneath, in order of id
abbrev pub shared_down : Tree → (ℕ → ℕ) → ℕ → ℕ → List ℕ
shared_down tree losses top layer = map (part_of (policy_parts tree losses top layer)) (beneath tree top)

-- ---- the rules of allocation

-- what the ids beneath a top get of the policy loss of a layer, by rule 1 or 2
abbrev pub allocated : Tree → (ℕ → ℕ) → ℕ → ℕ → ℕ → List ℕ
allocated tree losses rule top layer = cond (nat_eq rule 1) (shared_at_once tree losses top layer) (shared_down tree losses top layer)
