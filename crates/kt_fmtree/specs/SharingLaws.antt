-- Laws of sharing back: the amounts beneath add to the policy loss, and an id without a loss gets nothing.
-- The rule: docs/FINANCIAL_MODULE.md, "Allocation".
use Rattle.std.specs.Prelude.{◌≡◌, ℕ, zero, suc, ◌+◌, ◌<◌, Bool, true, false, cond, nat_eq, List, [], ◌∷◌, map, slice_index, Option, Some, None}
use Rattle.std.specs.List.{AllByRecursion, IsDistinct, flat_map, list_any, sum, sum_by}
use Rattle.std.specs.Cmp.{nat_eq_equiv}
use Rattle.std.proofs.Common.{refl, sym, ap, subst, ◌∙◌, arith, eq-zero-or-pos, inl, inr}
use Rattle.std.proofs.lemmas.Bool.{eqb-true, eqb-false}
use Rattle.std.proofs.lemmas.List.Sums.{sum_by-cons, sum-map}
use Rattle.kt_keys.specs.Climbing.{climbed, after}
use Rattle.kt_money.specs.Sharing.{share_of, shares_after, share_out}
use Rattle.kt_money.specs.SharingLaws.{share_out-adds, share_of-zero}
use Rattle.kt_rec.specs.Sums.{sum_by-agree, sum_by-swap, sum_by-one, sum_by-flat_map, each_then, each_member, each_flat_map, member_filter, distinct_filter}
use Rattle.kt_fmtree.specs.Tree.{Tree, IsTree, carry_of, ground_up, policy_loss, is_unit, comes_to, beneath}
use Rattle.kt_fmtree.specs.TreeLaws.{carry_of-loss-le, policy_loss-le, comes_to-next, ground_up-beneath}
use Rattle.kt_fmtree.specs.Sharing.{Part, parts_for, carried_loss, weight_of, passed_down, id_parts, part_of, policy_parts, shared_at_once, shared_down, allocated}

-- ---- units with amounts

-- the amounts of units with shares add to the shares
parts-sum : (total weights given : ℕ) (weight : ℕ → ℕ) (units : List ℕ) → sum_by (λ part. part.amount) (parts_for units (shares_after total weights given (map weight units))) ≡ sum (shares_after total weights given (map weight units))
parts-sum total weights given weight [] = refl
parts-sum total weights given weight (unit ∷ units) =
    let rest = shares_after total weights (given + weight unit) (map weight units) in
    let share = share_of total weights given (weight unit) in
    omega (arith, sum_by-cons (λ (part : Part). part.amount) (record { unit = unit; amount = share }) (parts_for units rest), sum_by-cons (λ (n : ℕ). n) share rest, parts-sum total weights (given + weight unit) weight units)

-- a unit that has some has a weight
parts-weighed : (total weights given : ℕ) (weight : ℕ → ℕ) (units : List ℕ) → AllByRecursion (λ part. 0 < part.amount → 0 < weight part.unit) (parts_for units (shares_after total weights given (map weight units)))
parts-weighed total weights given weight [] = tt
parts-weighed total weights given weight (unit ∷ units) =
    (some (weight unit) refl, parts-weighed total weights (given + weight unit) weight units)
  where
    some : (n : ℕ) → n ≡ weight unit → 0 < share_of total weights given (weight unit) → 0 < weight unit
    some zero is above = let none = ap (share_of total weights given) (sym is) ∙ share_of-zero total weights given in omega arith
    some (suc n) is above = omega arith

-- what holds of units holds of units with amounts
parts-of : (P : ℕ → Type 0) (units amounts : List ℕ) → AllByRecursion P units → AllByRecursion (λ part. P part.unit) (parts_for units amounts)
parts-of P [] amounts all = tt
parts-of P (unit ∷ units) [] all = tt
parts-of P (unit ∷ units) (amount ∷ amounts) all = (all.0, parts-of P units amounts all.1)

-- ---- one level down

-- the part of a unit is good where it is none without a ground-up loss beneath, and the ids of the unit are those of the top
record IsGood (tree : Tree) (losses : ℕ → ℕ) (top level : ℕ) (part : Part) : Type 0 where
  pub backed : 0 < part.amount → 0 < ground_up tree losses level part.unit
  pub leads : (id : ℕ) → comes_to tree level part.unit id ≡ true → comes_to tree tree.top_level top id ≡ true

module _ (tree : Tree) (is : IsTree tree) (losses : ℕ → ℕ) (top : ℕ) where
  -- where the ground-up loss beneath is above 0, the weights are
  weights-positive : (level unit : ℕ) → 0 < ground_up tree losses (suc level) unit → 0 < sum (map (weight_of tree losses level (tree.children (suc level) unit)) (tree.children (suc level) unit))
  weights-positive level unit some = subst (λ n. 0 < n) (sym (sum-map (weight_of tree losses level units) units)) (by (nat_eq (carried_loss tree losses level units) 0) refl)
    where
      units : List ℕ
      units = tree.children (suc level) unit

      by : (b : Bool) → nat_eq (carried_loss tree losses level (tree.children (suc level) unit)) 0 ≡ b → 0 < sum_by (λ child. cond b (ground_up tree losses level child) (carry_of tree losses level child).loss) (tree.children (suc level) unit)
      by true none = some
      by false none = let other = eqb-false (carried_loss tree losses level (tree.children (suc level) unit)) 0 none in omega arith

  -- a weight above 0 has a ground-up loss above 0 beneath
  weight-backed : (level : ℕ) (units : List ℕ) (unit : ℕ) → 0 < weight_of tree losses level units unit → 0 < ground_up tree losses level unit
  weight-backed level units unit = by (nat_eq (carried_loss tree losses level units) 0)
    where
      by : (b : Bool) → 0 < cond b (ground_up tree losses level unit) (carry_of tree losses level unit).loss → 0 < ground_up tree losses level unit
      by true some = some
      by false some = omega (arith, carry_of-loss-le tree is losses level unit)

  -- the parts of the children add to the part of the unit
  passed_down-sum : (level : ℕ) (part : Part) → IsGood tree losses top (suc level) part → sum_by (λ child. child.amount) (passed_down tree losses level part) ≡ part.amount
  passed_down-sum level part good =
      let units = tree.children (suc level) part.unit in
      let weight = weight_of tree losses level units in
      parts-sum part.amount (sum (map weight units)) 0 weight units
      ∙ share_out-adds part.amount (map weight units) (λ some. weights-positive level part.unit (good.backed some))

  -- the ids of a child are those of the unit
  child-leads : (level unit child : ℕ) → ((id : ℕ) → comes_to tree (suc level) unit id ≡ true → comes_to tree tree.top_level top id ≡ true) → list_any (nat_eq child) (tree.children (suc level) unit) ≡ true → (id : ℕ) → comes_to tree level child id ≡ true → comes_to tree tree.top_level top id ≡ true
  child-leads level unit child leads here id comes = leads id (comes_to-next tree level unit id ∙ by (climbed tree.next level 1 id) comes)
    where
      by : (found : Option ℕ) → is_unit child found ≡ true → is_unit unit (after found (λ reached. tree.next (suc level, reached))) ≡ true
      by None comes = comes
      by (Some reached) comes =
          let same = eqb-true reached child comes in
          rw same (sym (is.children_are (suc level) unit child) ∙ here)

  -- the parts of the children are good
  passed_down-good : (level : ℕ) (part : Part) → IsGood tree losses top (suc level) part → AllByRecursion (IsGood tree losses top level) (passed_down tree losses level part)
  passed_down-good level part good =
      let units = tree.children (suc level) part.unit in
      let weight = weight_of tree losses level units in
      both (passed_down tree losses level part)
      (parts-weighed part.amount (sum (map weight units)) 0 weight units)
      (parts-of (λ child. list_any (nat_eq child) units ≡ true) units (share_out part.amount (map weight units)) (each_member units))
    where
      both : (parts : List Part)
          → AllByRecursion (λ child. 0 < child.amount → 0 < weight_of tree losses level (tree.children (suc level) part.unit) child.unit) parts
          → AllByRecursion (λ child. list_any (nat_eq child.unit) (tree.children (suc level) part.unit) ≡ true) parts
          → AllByRecursion (IsGood tree losses top level) parts
      both [] weighed members = tt
      both (child ∷ parts) weighed members = (
        record {
          backed = λ some. weight-backed level (tree.children (suc level) part.unit) child.unit (weighed.0 some);
          leads = child-leads level part.unit child.unit good.leads members.0;
        },
        both parts weighed.1 members.1,
      )

  -- ---- down to the ids

  -- the parts of the ids are good, and add to the parts
  id_parts-good : (level : ℕ) (parts : List Part) → AllByRecursion (IsGood tree losses top level) parts → AllByRecursion (IsGood tree losses top 0) (id_parts tree losses level parts)
  id_parts-good zero parts good = good
  id_parts-good (suc level) parts good =
      id_parts-good level (flat_map (passed_down tree losses level) parts) (each_flat_map _ _ (passed_down tree losses level) (passed_down-good level) parts good)

  id_parts-sum : (level : ℕ) (parts : List Part) → AllByRecursion (IsGood tree losses top level) parts → sum_by (λ part. part.amount) (id_parts tree losses level parts) ≡ sum_by (λ part. part.amount) parts
  id_parts-sum zero parts good = refl
  id_parts-sum (suc level) parts good =
      id_parts-sum level (flat_map (passed_down tree losses level) parts) (each_flat_map _ _ (passed_down tree losses level) (passed_down-good level) parts good)
      ∙ (sum_by-flat_map (λ part. part.amount) (passed_down tree losses level) parts
      ∙ sum_by-agree (λ part. sum_by (λ child. child.amount) (passed_down tree losses level part)) (λ part. part.amount) parts (each_then _ _ (passed_down-sum level) parts good))

  -- the ids of good parts are beneath the top
  id-beneath : (part : Part) → IsGood tree losses top 0 part → list_any (nat_eq part.unit) (beneath tree top) ≡ true
  id-beneath part good =
      let comes = good.leads part.unit (nat_eq_equiv.refl part.unit) in
      member_filter (comes_to tree tree.top_level top) part.unit tree.ids comes (by tree.top_level is.levels comes)
    where
      first : (found : Option ℕ) (rest : ℕ → Option ℕ) → is_unit top (after found rest) ≡ true → (unit : ℕ) × (is_unit unit found ≡ true)
      first None rest comes = cc
      first (Some reached) rest comes = (reached, nat_eq_equiv.refl reached)

      by : (level : ℕ) → 0 < level → is_unit top (climbed tree.next level 1 part.unit) ≡ true → list_any (nat_eq part.unit) tree.ids ≡ true
      by zero above comes = absurd (omega arith)
      by (suc level) above comes = let found = first (tree.next (1, part.unit)) _ comes in is.ids_are part.unit found.0 found.1

-- over distinct ids, what each has of parts of theirs adds to the parts
collected : (ids : List ℕ) → IsDistinct nat_eq ids → (parts : List Part) → AllByRecursion (λ part. list_any (nat_eq part.unit) ids ≡ true) parts → sum_by (part_of parts) ids ≡ sum_by (λ part. part.amount) parts
collected ids distinct parts members =
    sum_by-swap (λ id part. cond (nat_eq part.unit id) part.amount 0) ids parts
    ∙ sum_by-agree (λ part. sum_by (λ id. cond (nat_eq part.unit id) part.amount 0) ids) (λ part. part.amount) parts
    (each_then _ _ (λ part here. sum_by-one part.amount part.unit ids distinct ∙ ap (λ b. cond b part.amount 0) here) parts members)

-- an id without a loss has nothing of good parts
nothing : (tree : Tree) (losses : ℕ → ℕ) (top id : ℕ) (parts : List Part) → losses id ≡ 0 → AllByRecursion (IsGood tree losses top 0) parts → part_of parts id ≡ 0
nothing tree losses top id [] none good = refl
nothing tree losses top id (part ∷ parts) none good =
    sum_by-cons (λ x. cond (nat_eq x.unit id) x.amount 0) part parts ∙ by (nat_eq part.unit id) refl (nothing tree losses top id parts none good.1)
  where
    by : (b : Bool) → nat_eq part.unit id ≡ b → part_of parts id ≡ 0 → cond b part.amount 0 + part_of parts id ≡ 0
    by true same rest =
        let without : losses part.unit ≡ 0 = ap losses (eqb-true part.unit id same) ∙ none in
        elim (eq-zero-or-pos part.amount) [
          | inl zero_amount ↦ omega arith
          | inr above ↦ let some = good.0.backed above in omega arith
        ]
    by false same rest = omega arith

-- ---- the laws

module _ (tree : Tree) (is : IsTree tree) (losses : ℕ → ℕ) (top layer : ℕ) where
  -- where there is a policy loss, there is a ground-up loss beneath
  policy-backed : 0 < policy_loss tree losses top layer → 0 < ground_up tree losses tree.top_level top
  policy-backed some = omega (arith, policy_loss-le tree is losses top layer)

  -- the policy loss is a good part
  policy-good : AllByRecursion (IsGood tree losses top tree.top_level) (record { unit = top; amount = policy_loss tree losses top layer } ∷ [])
  policy-good = (record { backed = policy-backed; leads = λ id comes. comes }, tt)

  parts-good : AllByRecursion (IsGood tree losses top 0) (policy_parts tree losses top layer)
  parts-good = id_parts-good tree is losses top tree.top_level _ policy-good

  shared_at_once-sum : sum (shared_at_once tree losses top layer) ≡ policy_loss tree losses top layer
  shared_at_once-sum =
      share_out-adds (policy_loss tree losses top layer) (map losses (beneath tree top))
      (λ some. subst (λ n. 0 < n) (ground_up-beneath tree is losses top ∙ sym (sum-map losses (beneath tree top))) (policy-backed some))

  shared_down-sum : sum (shared_down tree losses top layer) ≡ policy_loss tree losses top layer
  shared_down-sum =
      sum-map (part_of (policy_parts tree losses top layer)) (beneath tree top)
      ∙ (collected (beneath tree top) (distinct_filter (comes_to tree tree.top_level top) tree.ids is.ids_once) (policy_parts tree losses top layer)
      (each_then _ _ (id-beneath tree is losses top) (policy_parts tree losses top layer) parts-good)
      ∙ (id_parts-sum tree is losses top tree.top_level _ policy-good ∙ one (policy_loss tree losses top layer)))
    where
      one : (amount : ℕ) → 0 + amount ≡ amount
      one amount = omega arith

  -- what the ids beneath a top get adds to the policy loss
  pub allocated-sum : (rule : ℕ) → sum (allocated tree losses rule top layer) ≡ policy_loss tree losses top layer
  allocated-sum rule = by (nat_eq rule 1)
    where
      by : (b : Bool) → sum (cond b (shared_at_once tree losses top layer) (shared_down tree losses top layer)) ≡ policy_loss tree losses top layer
      by true = shared_at_once-sum
      by false = shared_down-sum

  -- an id beneath without a ground-up loss gets nothing
  pub allocated-none : (rule place : ℕ) → losses (slice_index (beneath tree top) place) ≡ 0 → slice_index (allocated tree losses rule top layer) place ≡ 0
  allocated-none rule place none = by (nat_eq rule 1)
    where
      share_at : (total weights given : ℕ) (ids : List ℕ) (place : ℕ) → losses (slice_index ids place) ≡ 0 → slice_index (shares_after total weights given (map losses ids)) place ≡ 0
      share_at total weights given [] place none = refl
      share_at total weights given (id ∷ ids) zero none = rw none (share_of-zero total weights given)
      share_at total weights given (id ∷ ids) (suc place) none = share_at total weights (given + losses id) ids place none

      part_at : (ids : List ℕ) (place : ℕ) → losses (slice_index ids place) ≡ 0 → slice_index (map (part_of (policy_parts tree losses top layer)) ids) place ≡ 0
      part_at [] place none = refl
      part_at (id ∷ ids) zero none = nothing tree losses top id (policy_parts tree losses top layer) none parts-good
      part_at (id ∷ ids) (suc place) none = part_at ids place none

      by : (b : Bool) → slice_index (cond b (shared_at_once tree losses top layer) (shared_down tree losses top layer)) place ≡ 0
      by true = share_at (policy_loss tree losses top layer) (sum (map losses (beneath tree top))) 0 (beneath tree top) place none
      by false = part_at (beneath tree top) place none
