-- The struck units make a tree, which carries what the whole tree does where the other ids have no loss.
-- The rule: docs/FINANCIAL_MODULE.md, "Levels".
use Rattle.std.specs.Prelude.{◌≡◌, ℕ, zero, suc, ◌+◌, ◌<◌, ◌&&◌, Bool, true, false, cond, nat_eq, List, [], ◌∷◌, Option, Some, None}
use Rattle.std.specs.Cmp.{nat_eq_equiv}
use Rattle.std.specs.List.{AllByRecursion, IsDistinct, filter, list_any}
use Rattle.std.proofs.Common.{refl, sym, ap, ◌∙◌, arith}
use Rattle.std.proofs.lemmas.Bool.{eqb-true}
use Rattle.kt_keys.specs.Climbing.{climbed, after}
use Rattle.kt_rules.specs.Amounts.{total}
use Rattle.kt_rules.specs.Rules.{applied}
use Rattle.kt_rules.specs.declared.carry.Carry.{Carry}
use Rattle.kt_rec.specs.Sums.{sum_by-agree, sum_by-filter, sum_by-none, each_then, each_member, distinct_filter}
use Rattle.kt_fmtree.specs.Tree.{Tree, IsTree, add_carries, base_of, beneath, carry_of, comes_to, ground_up, is_unit, policy_loss, sum_carries, whole_loss}
use Rattle.kt_fmtree.specs.TreeLaws.{carry_of-total, climbed-last, comes_to-next, each, policy_loss-le}
use Rattle.kt_fmtree.specs.Struck.{is_struck, struck, struck_children, struck_next}
use Rattle.kt_rec.specs.Members.{any-of, any-then, any-turned, filter-both, member-filter}

-- an amount or a unit that may be absent
none-after : (follow : ℕ → Option ℕ) → after None follow ≡ None
none-after follow = refl

module _ (tree : Tree) (is : IsTree tree) (ids : List ℕ) where
  -- an id is struck where it is one of these
  pub struck-id : (id : ℕ) → is_struck tree ids 0 id ≡ list_any (nat_eq id) ids
  struck-id id = any-turned id ids

  -- the unit that the losses of a struck unit come to is struck
  pub struck-up : (level child unit : ℕ) → is_unit unit (tree.next (suc level, child)) ≡ true → is_struck tree ids level child ≡ true → is_struck tree ids (suc level) unit ≡ true
  struck-up level child unit to = any-then (comes_to tree level child) (comes_to tree (suc level) unit) (λ id comes. comes_to-next tree level unit id ∙ by (climbed tree.next level 1 id) comes) ids
    where
      by : (found : Option ℕ) → is_unit child found ≡ true → is_unit unit (after found (λ reached. tree.next (suc level, reached))) ≡ true
      by None comes = cc
      by (Some reached) comes = ap (λ r. is_unit unit (tree.next (suc level, r))) (eqb-true reached child comes) ∙ to

  -- so no child of a unit that is not struck is
  pub unstruck-children : (level unit : ℕ) → is_struck tree ids (suc level) unit ≡ false → AllByRecursion (λ child. is_struck tree ids level child ≡ false) (tree.children (suc level) unit)
  unstruck-children level unit none =
      each_then (λ child. list_any (nat_eq child) (tree.children (suc level) unit) ≡ true) _ (λ child here. by child (sym (is.children_are (suc level) unit child) ∙ here) (is_struck tree ids level child) refl) (tree.children (suc level) unit) (each_member (tree.children (suc level) unit))
    where
      by : (child : ℕ) → is_unit unit (tree.next (suc level, child)) ≡ true → (b : Bool) → is_struck tree ids level child ≡ b → is_struck tree ids level child ≡ false
      by child to false is_it = is_it
      by child to true is_it = let up = struck-up level child unit to is_it in cc

  -- the struck units make a tree
  pub struck-is : IsTree (struck tree ids)
  unfolding IsDistinct
  struck-is = record {
    levels = is.levels;
    ids_once = distinct_filter (is_struck tree ids 0) tree.ids is.ids_once;
    ids_are = λ id unit comes. member-filter (is_struck tree ids 0) id tree.ids ∙ named id unit (is_struck tree ids 0 id) refl comes;
    children_once = once;
    children_are = are;
    profiles = is.profiles;
    layer_profiles = is.layer_profiles;
    values = is.values;
  }
    where
      named : (id unit : ℕ) (b : Bool) → is_struck tree ids 0 id ≡ b → is_unit unit (cond b (tree.next (1, id)) None) ≡ true → (is_struck tree ids 0 id && list_any (nat_eq id) tree.ids) ≡ true
      named id unit true here comes = rw (here, is.ids_are id unit comes) refl
      named id unit false here comes = cc

      once : (level unit : ℕ) → IsDistinct nat_eq (struck_children tree ids level unit)
      once zero unit = tt
      once (suc level) unit = distinct_filter (is_struck tree ids level) (tree.children (suc level) unit) (is.children_once (suc level) unit)

      are : (level unit child : ℕ) → list_any (nat_eq child) (struck_children tree ids level unit) ≡ is_unit unit (struck_next tree ids (level, child))
      are zero unit child = refl
      are (suc level) unit child = member-filter (is_struck tree ids level) child (tree.children (suc level) unit) ∙ by (is_struck tree ids level child)
        where
          by : (b : Bool) → (b && list_any (nat_eq child) (tree.children (suc level) unit)) ≡ is_unit unit (cond b (tree.next (suc level, child)) None)
          by true = is.children_are (suc level) unit child
          by false = refl

  -- ---- up the tree

  -- the unit that an id reaches is struck
  reached-struck : (level id reached : ℕ) → list_any (nat_eq id) ids ≡ true → climbed tree.next level 1 id ≡ Some reached → is_struck tree ids level reached ≡ true
  reached-struck level id reached member climbs = any-of (comes_to tree level reached) id ids member (ap (is_unit reached) climbs ∙ nat_eq_equiv.refl reached)

  -- each of these ids climbs as before
  pub climbed-struck : (level id : ℕ) → list_any (nat_eq id) ids ≡ true → climbed (struck tree ids).next level 1 id ≡ climbed tree.next level 1 id
  climbed-struck zero id member = refl
  climbed-struck (suc level) id member =
      climbed-last (struck tree ids).next level 1 id
      ∙ (ap (λ found. after found (λ reached. (struck tree ids).next (1 + level, reached))) (climbed-struck level id member)
      ∙ (by (climbed tree.next level 1 id) refl
      ∙ sym (climbed-last tree.next level 1 id)))
    where
      more : 1 + level ≡ suc level
      more = omega arith

      goes : (reached : ℕ) → is_struck tree ids level reached ≡ true → struck_next tree ids (1 + level, reached) ≡ tree.next (1 + level, reached)
      goes reached here = ap (λ n. struck_next tree ids (n, reached)) more ∙ (ap (λ b. cond b (tree.next (suc level, reached)) None) here ∙ ap (λ n. tree.next (n, reached)) (sym more))

      by : (found : Option ℕ) → climbed tree.next level 1 id ≡ found → after found (λ reached. struck_next tree ids (1 + level, reached)) ≡ after found (λ reached. tree.next (1 + level, reached))
      by None climbs = refl
      by (Some reached) climbs = goes reached (reached-struck level id reached member climbs)

  -- and another id does not
  pub climbed-other : (level id : ℕ) → 0 < level → list_any (nat_eq id) ids ≡ false → climbed (struck tree ids).next level 1 id ≡ None
  climbed-other zero id above other = absurd (omega arith)
  climbed-other (suc level) id above other = ap (λ b. after (cond b (tree.next (1, id)) None) (climbed (struck tree ids).next level 2)) (struck-id id ∙ other)

  -- the ids beneath a top are those of them beneath it before
  pub beneath-struck : (top : ℕ) → beneath (struck tree ids) top ≡ filter (is_struck tree ids 0) (beneath tree top)
  beneath-struck top = filter-both (is_struck tree ids 0) (comes_to (struck tree ids) tree.top_level top) (comes_to tree tree.top_level top) (λ id here. ap (is_unit top) (climbed-struck tree.top_level id (sym (struck-id id) ∙ here))) tree.ids

  -- ---- what is carried, where the other ids have no loss

  module _ (losses : ℕ → ℕ) (quiet : (id : ℕ) → list_any (nat_eq id) ids ≡ false → losses id ≡ 0) where
    -- no loss lies beneath a unit that is not struck
    pub ground_up-none : (level unit : ℕ) → is_struck tree ids level unit ≡ false → ground_up tree losses level unit ≡ 0
    ground_up-none zero unit none = quiet unit (sym (struck-id unit) ∙ none)
    ground_up-none (suc level) unit none =
        sum_by-agree (ground_up tree losses level) (λ child. 0) (tree.children (suc level) unit) (each_then _ _ (ground_up-none level) (tree.children (suc level) unit) (unstruck-children level unit none))
        ∙ sum_by-none (tree.children (suc level) unit)

    -- so it carries nothing
    pub carry_of-none : (level unit : ℕ) → is_struck tree ids level unit ≡ false → carry_of tree losses level unit ≡ whole_loss 0
    carry_of-none level unit none = empty (carry_of tree losses level unit) (carry_of-total tree is losses level unit ∙ ground_up-none level unit none)
      where
        empty : (carry : Carry) → total carry ≡ 0 → carry ≡ whole_loss 0
        empty carry adds =
            let loss : carry.loss ≡ 0 = omega arith in
            let ded : carry.ded ≡ 0 = omega arith in
            let over : carry.over ≡ 0 = omega arith in
            let kept : carry.kept ≡ 0 = omega arith in
            (λ i. record { loss = loss i; ded = ded i; over = over i; kept = kept i })

    -- nothing adds nothing
    add_nothing : (carry : Carry) → add_carries (whole_loss 0) carry ≡ carry
    add_nothing carry = (λ i. record { loss = none carry.loss i; ded = none carry.ded i; over = none carry.over i; kept = none carry.kept i })
      where
        none : (n : ℕ) → 0 + n ≡ n
        none n = omega arith

    -- what comes from struck units is what comes from all, where each carries what it did
    sum_carries-struck : (level : ℕ) → ((unit : ℕ) → carry_of (struck tree ids) losses level unit ≡ carry_of tree losses level unit) → (units : List ℕ) → sum_carries (carry_of (struck tree ids) losses level) (filter (is_struck tree ids level) units) ≡ sum_carries (carry_of tree losses level) units
    sum_carries-struck level same [] = refl
    sum_carries-struck level same (unit ∷ units) = by (is_struck tree ids level unit) refl (sum_carries-struck level same units)
      where
        by : (b : Bool) → is_struck tree ids level unit ≡ b → sum_carries (carry_of (struck tree ids) losses level) (filter (is_struck tree ids level) units) ≡ sum_carries (carry_of tree losses level) units → sum_carries (carry_of (struck tree ids) losses level) (cond b (unit ∷ filter (is_struck tree ids level) units) (filter (is_struck tree ids level) units)) ≡ add_carries (carry_of tree losses level unit) (sum_carries (carry_of tree losses level) units)
        by true here rest = λ i. add_carries (same unit i) (rest i)
        by false here rest = rest ∙ (sym (add_nothing (sum_carries (carry_of tree losses level) units)) ∙ ap (λ c. add_carries c (sum_carries (carry_of tree losses level) units)) (sym (carry_of-none level unit here)))

    -- each unit carries what it did
    pub carry_of-struck : (level unit : ℕ) → carry_of (struck tree ids) losses level unit ≡ carry_of tree losses level unit
    carry_of-struck zero unit = refl
    carry_of-struck (suc level) unit = ap (applied (tree.profile (suc level) unit) (tree.tiv (suc level) unit)) (sum_carries-struck level (carry_of-struck level) (tree.children (suc level) unit))

    -- and so much comes to it
    pub base_of-struck : (level unit : ℕ) → base_of (struck tree ids) losses level unit ≡ base_of tree losses level unit
    base_of-struck zero unit = refl
    base_of-struck (suc level) unit = sum_carries-struck level (carry_of-struck level) (tree.children (suc level) unit)

    -- the ground-up losses beneath units are those that they were
    pub ground_up-struck : (level unit : ℕ) → ground_up (struck tree ids) losses level unit ≡ ground_up tree losses level unit
    ground_up-struck zero unit = refl
    ground_up-struck (suc level) unit =
        sum_by-filter (ground_up (struck tree ids) losses level) (is_struck tree ids level) (tree.children (suc level) unit)
        ∙ sum_by-agree _ _ (tree.children (suc level) unit) (each (λ child. by child (ground_up-struck level child) (is_struck tree ids level child) refl) (tree.children (suc level) unit))
      where
        by : (child : ℕ) → ground_up (struck tree ids) losses level child ≡ ground_up tree losses level child → (b : Bool) → is_struck tree ids level child ≡ b → cond b (ground_up (struck tree ids) losses level child) 0 ≡ ground_up tree losses level child
        by child same true here = same
        by child same false here = sym (ground_up-none level child here)

    -- no policy loss changes
    pub policy_loss-struck : (top layer : ℕ) → policy_loss (struck tree ids) losses top layer ≡ policy_loss tree losses top layer
    policy_loss-struck top layer = ap (λ base. (applied (tree.layer_profile top layer) (tree.tiv tree.top_level top) base).loss) (base_of-struck tree.top_level top)

    -- and a top that is not struck has none
    pub policy_loss-none : (top layer : ℕ) → is_struck tree ids tree.top_level top ≡ false → policy_loss tree losses top layer ≡ 0
    policy_loss-none top layer none = omega (arith, policy_loss-le tree is losses top layer, ground_up-none tree.top_level top none)
