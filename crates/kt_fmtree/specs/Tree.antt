-- The tree of a programme, and what it makes of losses.
-- The rules: docs/FINANCIAL_MODULE.md, "Levels", "Policy losses".
use Rattle.std.specs.Prelude.{◌≡◌, ℕ, zero, suc, ◌+◌, ◌≤◌, ◌<◌, Bool, true, false, nat_eq, List, [], ◌∷◌, Option, Some, None}
use Rattle.std.specs.List.{IsDistinct, filter, list_any, sum_by}
use Rattle.kt_keys.specs.Climbing.{climbed}
use Rattle.kt_rules.specs.Profiles.{IsProfile}
use Rattle.kt_rules.specs.Rules.{applied}
use Rattle.kt_rules.specs.declared.carry.Carry.{Carry}
use Rattle.kt_rules.specs.declared.profile.Profile.{Profile}

-- a programme as a tree: level 0 has the ids whose losses come in, and each level above has the units that the losses of the
-- level below come to
pub record Tree : Type 0 where
  -- the level of the tops
  pub top_level : ℕ
  -- the ids whose losses come in, rising
  pub ids : List ℕ
  -- the units of the top level, rising
  pub tops : List ℕ
  -- the unit of the next level that a unit's losses come to: the key is the next level and the unit
  pub next : ℕ × ℕ → Option ℕ
  -- the units of the level below whose losses come to a unit, rising
  pub children : ℕ → ℕ → List ℕ
  -- the terms of a unit below the top level
  pub profile : ℕ → ℕ → Profile
  -- what the distinct coverages beneath a unit are worth
  pub tiv : ℕ → ℕ → ℕ
  -- the layers of a top, rising
  pub layers : ℕ → List ℕ
  -- the terms of a layer of a top
  pub layer_profile : ℕ → ℕ → Profile

-- ---- up the tree

-- a loss, of which no term has taken anything
abbrev pub whole_loss : ℕ → Carry
whole_loss loss = record { loss = loss; ded = 0; over = 0; kept = 0 }

-- the amounts of two, added
abbrev pub add_carries : Carry → Carry → Carry
add_carries one other = record {
  loss = one.loss + other.loss;
  ded = one.ded + other.ded;
  over = one.over + other.over;
  kept = one.kept + other.kept;
}

-- the amounts of units, added
abbrev pub sum_carries : (ℕ → Carry) → List ℕ → Carry
sum_carries carry [] = whole_loss 0
sum_carries carry (unit ∷ units) = add_carries (carry unit) (sum_carries carry units)

-- the four amounts of a unit of a level below the top level: an id of level 0 carries its loss
abbrev pub carry_of : Tree → (ℕ → ℕ) → ℕ → ℕ → Carry
carry_of tree losses zero unit = whole_loss (losses unit)
carry_of tree losses (suc level) unit =
    applied (tree.profile (suc level) unit) (tree.tiv (suc level) unit) (sum_carries (carry_of tree losses level) (tree.children (suc level) unit))

-- the four amounts that come to a unit, before its terms
abbrev pub base_of : Tree → (ℕ → ℕ) → ℕ → ℕ → Carry
base_of tree losses zero unit = whole_loss (losses unit)
base_of tree losses (suc level) unit = sum_carries (carry_of tree losses level) (tree.children (suc level) unit)

-- the policy loss of a layer of a top
abbrev pub policy_loss : Tree → (ℕ → ℕ) → ℕ → ℕ → ℕ
policy_loss tree losses top layer = (applied (tree.layer_profile top layer) (tree.tiv tree.top_level top) (base_of tree losses tree.top_level top)).loss

-- the ground-up loss beneath a unit
abbrev pub ground_up : Tree → (ℕ → ℕ) → ℕ → ℕ → ℕ
ground_up tree losses zero unit = losses unit
ground_up tree losses (suc level) unit = sum_by (ground_up tree losses level) (tree.children (suc level) unit)

-- ---- what lies beneath

-- whether a unit that may be absent is this one
abbrev pub is_unit : ℕ → Option ℕ → Bool
is_unit unit None = false
is_unit unit (Some other) = nat_eq other unit

-- whether the losses of an id come to a unit of a level
abbrev pub comes_to : Tree → ℕ → ℕ → ℕ → Bool
comes_to tree level unit id = is_unit unit (climbed tree.next level 1 id)

-- the ids beneath a top, rising
abbrev pub beneath : Tree → ℕ → List ℕ
beneath tree top = filter (comes_to tree tree.top_level top) tree.ids

-- ---- trees

-- a tree hangs together: the children of a unit are those units whose losses come to it, each once, and the ids are those
-- whose losses come to a unit; and its terms are profiles
pub record IsTree (tree : Tree) : Type 0 where
  pub levels : 0 < tree.top_level
  pub ids_once : IsDistinct nat_eq tree.ids
  pub ids_are : (id unit : ℕ) → is_unit unit (tree.next (1, id)) ≡ true → list_any (nat_eq id) tree.ids ≡ true
  pub children_once : (level unit : ℕ) → IsDistinct nat_eq (tree.children level unit)
  pub children_are : (level unit child : ℕ) → list_any (nat_eq child) (tree.children level unit) ≡ is_unit unit (tree.next (level, child))
  pub profiles : (level unit : ℕ) → IsProfile (tree.profile level unit)
  pub layer_profiles : (top layer : ℕ) → IsProfile (tree.layer_profile top layer)
  pub values : (level unit : ℕ) → tree.tiv level unit ≤ 100000000000000
