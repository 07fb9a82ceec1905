-- Laws of the tree: its amounts add to the ground-up loss beneath.
-- The rule: docs/FINANCIAL_MODULE.md, "Levels".
use Rattle.std.specs.Prelude.{◌≡◌, ℕ, zero, suc, ◌+◌, ◌≤◌, Bool, true, false, cond, nat_eq, List, [], ◌∷◌, Option, Some, None}
use Rattle.std.specs.List.{AllByRecursion, list_any, sum_by}
use Rattle.std.specs.Cmp.{nat_eq_equiv}
use Rattle.std.proofs.lemmas.Bool.{eqb-true}
use Rattle.std.proofs.Common.{refl, sym, ap, subst, ◌∙◌, arith}
use Rattle.std.proofs.lemmas.List.Sums.{sum_by-cons}
use Rattle.kt_keys.specs.Climbing.{climbed, after}
use Rattle.kt_rules.specs.Amounts.{total}
use Rattle.kt_rules.specs.Profiles.{IsProfile}
use Rattle.kt_rules.specs.RuleLaws.{AreShares, keeps-rule_of, loss-le-total}
use Rattle.kt_rules.specs.declared.carry.Carry.{Carry}
use Rattle.kt_rules.specs.declared.profile.Profile.{Profile}
use Rattle.kt_rec.specs.Sums.{sum_by-agree, sum_by-swap, sum_by-one, sum_by-none, sum_by-filter, sum_by-below, each_then, each_member}
use Rattle.kt_fmtree.specs.Tree.{Tree, IsTree, sum_carries, carry_of, base_of, policy_loss, ground_up, is_unit, comes_to, beneath}

-- the shares of a profile are at most the whole
pub shares_of : (profile : Profile) → IsProfile profile → AreShares profile
shares_of profile is = record { share1 = is.share1; share2 = is.share2; share3 = is.share3 }

-- the amounts of units add to the sum of their amounts
sum_carries-total : (carry : ℕ → Carry) (amount : ℕ → ℕ) (units : List ℕ) → AllByRecursion (λ unit. total (carry unit) ≡ amount unit) units → total (sum_carries carry units) ≡ sum_by amount units
sum_carries-total carry amount [] same = refl
sum_carries-total carry amount (unit ∷ units) same =
    omega (arith, sum_by-cons amount unit units, same.0, sum_carries-total carry amount units same.1)

-- what holds of each unit holds of those of a list
pub each : {P : ℕ → Type 0} → ((unit : ℕ) → P unit) → (units : List ℕ) → AllByRecursion P units
each all [] = tt
each all (unit ∷ units) = (all unit, each all units)

-- the four amounts of a unit add to the ground-up loss beneath it
pub carry_of-total : (tree : Tree) → IsTree tree → (losses : ℕ → ℕ) (level unit : ℕ) → total (carry_of tree losses level unit) ≡ ground_up tree losses level unit
carry_of-total tree is losses zero unit = omega arith
carry_of-total tree is losses (suc level) unit =
    let terms = tree.profile (suc level) unit in
    let children = tree.children (suc level) unit in
    keeps-rule_of terms.rule terms (tree.tiv (suc level) unit) (sum_carries (carry_of tree losses level) children) (shares_of terms (is.profiles (suc level) unit))
    ∙ sum_carries-total (carry_of tree losses level) (ground_up tree losses level) children (each (carry_of-total tree is losses level) children)

-- and so do those that come to it
pub base_of-total : (tree : Tree) → IsTree tree → (losses : ℕ → ℕ) (level unit : ℕ) → total (base_of tree losses level unit) ≡ ground_up tree losses level unit
base_of-total tree is losses zero unit = omega arith
base_of-total tree is losses (suc level) unit =
    sum_carries-total (carry_of tree losses level) (ground_up tree losses level) (tree.children (suc level) unit) (each (carry_of-total tree is losses level) (tree.children (suc level) unit))

-- so the loss that a unit carries is not above it
pub carry_of-loss-le : (tree : Tree) → IsTree tree → (losses : ℕ → ℕ) (level unit : ℕ) → (carry_of tree losses level unit).loss ≤ ground_up tree losses level unit
carry_of-loss-le tree is losses level unit = omega (arith, carry_of-total tree is losses level unit)

-- the policy loss of a layer is not above the ground-up loss beneath its top
pub policy_loss-le : (tree : Tree) → IsTree tree → (losses : ℕ → ℕ) (top layer : ℕ) → policy_loss tree losses top layer ≤ ground_up tree losses tree.top_level top
policy_loss-le tree is losses top layer =
    let terms = tree.layer_profile top layer in
    let base = base_of tree losses tree.top_level top in
    omega (arith, loss-le-total terms (tree.tiv tree.top_level top) base (shares_of terms (is.layer_profiles top layer)), base_of-total tree is losses tree.top_level top)

-- ---- what lies beneath

-- one level more is climbed from the unit that was reached
pub climbed-last : (next : ℕ × ℕ → Option ℕ) (levels level unit : ℕ) → climbed next (suc levels) level unit ≡ after (climbed next levels level unit) (λ reached. next (level + levels, reached))
climbed-last next zero level unit = let e : level + 0 ≡ level = omega arith in rw e (by (next (level, unit)))
  where
    by : (found : Option ℕ) → after found (climbed next 0 (level + 1)) ≡ found
    by None = refl
    by (Some reached) = refl
climbed-last next (suc levels) level unit = by (next (level, unit)) (λ reached. climbed-last next levels (level + 1) reached)
  where
    by : (found : Option ℕ) → ((reached : ℕ) → climbed next (suc levels) (level + 1) reached ≡ after (climbed next levels (level + 1) reached) (λ last. next (level + 1 + levels, last))) → after found (climbed next (suc levels) (level + 1)) ≡ after (after found (climbed next levels (level + 1))) (λ last. next (level + suc levels, last))
    by None later = refl
    by (Some reached) later = let e : level + suc levels ≡ level + 1 + levels = omega arith in rw e (later reached)

-- a unit that was reached, and the next one
pub comes_to-next : (tree : Tree) (level unit id : ℕ) → comes_to tree (suc level) unit id ≡ is_unit unit (after (climbed tree.next level 1 id) (λ reached. tree.next (suc level, reached)))
comes_to-next tree level unit id =
    let e : 1 + level ≡ suc level = omega arith in
    ap (is_unit unit) (climbed-last tree.next level 1 id) ∙ ap (λ n. is_unit unit (after (climbed tree.next level 1 id) (λ reached. tree.next (n, reached)))) e

-- over the children of a unit, an amount of each child that an id comes to is one of the id where it comes to the unit
through_children : (tree : Tree) → IsTree tree → (amount level unit id : ℕ) → sum_by (λ child. cond (comes_to tree level child id) amount 0) (tree.children (suc level) unit) ≡ cond (comes_to tree (suc level) unit id) amount 0
through_children tree is amount level unit id =
    by (climbed tree.next level 1 id) ∙ ap (λ b. cond b amount 0) (sym (comes_to-next tree level unit id))
  where
    by : (found : Option ℕ) → sum_by (λ child. cond (is_unit child found) amount 0) (tree.children (suc level) unit) ≡ cond (is_unit unit (after found (λ reached. tree.next (suc level, reached)))) amount 0
    by None = sum_by-none (tree.children (suc level) unit)
    by (Some reached) = sum_by-one amount reached (tree.children (suc level) unit) (is.children_once (suc level) unit) ∙ ap (λ b. cond b amount 0) (is.children_are (suc level) unit reached)

-- what one id has, named by the other
swap_one : (losses : ℕ → ℕ) (id other : ℕ) → cond (nat_eq other id) (losses other) 0 ≡ cond (nat_eq id other) (losses id) 0
swap_one losses id other = by (nat_eq other id) refl
  where
    by : (b : Bool) → nat_eq other id ≡ b → cond b (losses other) 0 ≡ cond (nat_eq id other) (losses id) 0
    by true is = rw (nat_eq_equiv.symm id other ∙ is) (ap losses (eqb-true other id is))
    by false is = rw (nat_eq_equiv.symm id other ∙ is) refl

-- the ground-up loss beneath a unit is that of the ids that come to it
pub ground_up-gathered : (tree : Tree) → IsTree tree → (losses : ℕ → ℕ) (level unit : ℕ) → (level ≡ 0 → list_any (nat_eq unit) tree.ids ≡ true) → ground_up tree losses level unit ≡ sum_by (λ id. cond (comes_to tree level unit id) (losses id) 0) tree.ids
ground_up-gathered tree is losses zero unit member =
    sym (sum_by-agree (λ id. cond (nat_eq id unit) (losses id) 0) (λ id. cond (nat_eq unit id) (losses unit) 0) tree.ids (each (swap_one losses unit) tree.ids)
    ∙ (sum_by-one (losses unit) unit tree.ids is.ids_once
    ∙ ap (λ b. cond b (losses unit) 0) (member refl)))
ground_up-gathered tree is losses (suc level) unit member =
    let units = tree.children (suc level) unit in
    sum_by-agree (ground_up tree losses level) (λ child. sum_by (λ id. cond (comes_to tree level child id) (losses id) 0) tree.ids) units
    (each_then (λ child. list_any (nat_eq child) units ≡ true) _ (λ child here. ground_up-gathered tree is losses level child (λ bottom. is.ids_are child unit (subst (λ n. is_unit unit (tree.next (suc n, child)) ≡ true) bottom (sym (is.children_are (suc level) unit child) ∙ here)))) units (each_member units))
    ∙ (sum_by-swap (λ child id. cond (comes_to tree level child id) (losses id) 0) units tree.ids
    ∙ sum_by-agree (λ id. sum_by (λ child. cond (comes_to tree level child id) (losses id) 0) units) (λ id. cond (comes_to tree (suc level) unit id) (losses id) 0) tree.ids (each (λ id. through_children tree is (losses id) level unit id) tree.ids))

-- the ground-up loss beneath a top is that of the ids beneath it
pub ground_up-beneath : (tree : Tree) → IsTree tree → (losses : ℕ → ℕ) (top : ℕ) → ground_up tree losses tree.top_level top ≡ sum_by losses (beneath tree top)
ground_up-beneath tree is losses top =
    ground_up-gathered tree is losses tree.top_level top (λ bottom. absurd (let above = is.levels in omega arith))
    ∙ sym (sum_by-filter losses (comes_to tree tree.top_level top) tree.ids)

-- the ground-up loss beneath a unit above level 0 is not above that of all ids
pub ground_up-few : (tree : Tree) → IsTree tree → (losses : ℕ → ℕ) (level unit : ℕ) → ground_up tree losses (suc level) unit ≤ sum_by losses tree.ids
ground_up-few tree is losses level unit =
    let gathered = ground_up-gathered tree is losses (suc level) unit (λ bottom. absurd (omega arith)) in
    omega (arith, gathered, sum_by-below (λ id. cond (comes_to tree (suc level) unit id) (losses id) 0) losses tree.ids (λ id. few (comes_to tree (suc level) unit id) (losses id)))
  where
    few : (b : Bool) (amount : ℕ) → cond b amount 0 ≤ amount
    few true amount = omega arith
    few false amount = omega arith
