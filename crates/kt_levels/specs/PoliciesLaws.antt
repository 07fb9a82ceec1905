-- Laws of policy losses by lanes, and of what the ids beneath a top have of them.
-- The rules: docs/FINANCIAL_MODULE.md, "Policy losses", "Allocation".
use Rattle.std.specs.Prelude.{◌≡◌, ℕ, suc, ◌-◌, ◌<◌, ◌≤◌, ◌^◌, Bool, true, false, cond, nat_eq, List, [], ◌∷◌, All, length, map, slice_index, slice_index_or}
use Rattle.std.specs.List.{AllByRecursion, filter, list_any, sum}
use Rattle.std.proofs.Common.{refl, sym, ap, subst, ◌∙◌, arith}
use Rattle.std.proofs.lemmas.List.{length-map, get_or-map, get_or_default}
use Rattle.kt_money.specs.Sharing.{share_out}
use Rattle.kt_rules.specs.LossAlone.{looks_back, loss_after, loss-alone, loss_after-le}
use Rattle.kt_rules.specs.Profiles.{IsProfile}
use Rattle.kt_rules.specs.declared.carry.Carry.{Carry}
use Rattle.kt_rules.specs.declared.profile.Profile.{Profile}
use Rattle.kt_fmtree.specs.Sharing.{part_of, shared_at_once, shared_down}
use Rattle.kt_rec.specs.Sums.{each_member}
use Rattle.kt_fmtree.specs.Tree.{Tree, base_of, beneath, comes_to, whole_loss}
use Rattle.kt_fmtree.specs.TreeLaws.{shares_of}
use Rattle.kt_fmtree.specs.Carried.{AreCarried, IsCarriedBy, child_sum, loss_by, row_of}
use Rattle.kt_fmtree.specs.CarriedLaws.{loss_by-at, losses-few as all-few}
use Rattle.kt_rec.specs.ListLaws.{map-agree, map-map}
use Rattle.kt_fmtree.specs.Parts.{Parts, IsProgramme, HasProgramme, units_at}
use Rattle.kt_fmtree.specs.PartsLaws.{base-at, beneath-are}
use Rattle.kt_fmtree.specs.ProgrammeLaws.{programme-carries}
use Rattle.kt_fmtree.specs.declared.node.Node.{Node}
use Rattle.kt_fmtree.specs.AllocateLaws.{down-are, losses-few, top-can}
use Rattle.kt_fmtree.specs.Placed.{levels_down, no_node, node_at, unit_parts}
use Rattle.kt_fmtree.specs.declared.part.PlacedPart.{PlacedPart}
use Rattle.kt_lanes.specs.Lanes.{column, AreLanes, IsLane}
use Rattle.kt_levels.specs.Units.{CanTake, child_losses, losses_of}
use Rattle.kt_lanes.specs.BehindLaws.{behind-are}
use Rattle.kt_levels.specs.Climbed.{IsClimbed, carried_at, level_lanes}
use Rattle.kt_levels.specs.ClimbedLaws.{can-take, child_sum-loss}
use Rattle.kt_levels.specs.Down.{CanGive}
use Rattle.kt_levels.specs.Policies.{top_losses, IsTopBase, IsPolicy}
use Rattle.kt_lanes.specs.SideBySide.{AreBehind}
use Rattle.kt_levels.specs.declared.climbing.Climbed.{Climbed}

module _ (parts : Parts) (has : HasProgramme parts) (lanes : List (List ℕ)) (climbed : Climbed) (is_climbed : IsClimbed parts lanes climbed) where
  -- ---- what is carried

  pub same-length : (k : ℕ) → length (column k lanes) ≡ length parts.ids
  same-length k = length-map lanes (λ (one : List ℕ). slice_index one k) ∙ is_climbed.losses.count_is

  pub carries : (tree : Tree) → IsProgramme tree parts → (k : ℕ) → AreCarried tree (loss_by tree.ids (column k lanes)) parts (carried_at parts lanes k)
  carries tree is k = programme-carries tree parts is (column k lanes) (same-length k)

  abbrev pub carried : (k : ℕ) → k < climbed.width → IsCarriedBy parts (carried_at parts lanes k)
  carried k below = record {
    tree = has.tree;
    loss = loss_by has.tree.ids (column k lanes);
    is = has.is;
    carried_are = carries has.tree has.is k;
    few = all-few has.tree parts has.is (column k lanes) (same-length k ∙ ap length has.is.ids_are) (is_climbed.losses.few k below);
  }

  -- ---- the tops

  some-levels : 0 < length parts.levels
  some-levels = subst (λ n. 0 < n) (sym has.is.levels_are) has.is.is.levels

  -- the last level has a unit for each top
  pub tops-count : length parts.tops ≡ length (slice_index_or parts.levels (length parts.levels - 1) [])
  tops-count =
      let last : suc (length parts.levels - 1) ≡ length parts.levels = omega (arith, some-levels) in
      ap length (has.is.tops_are ∙ (sym has.is.top_units ∙ ap (units_at parts) (sym has.is.levels_are ∙ sym last)))
      ∙ length-map (slice_index_or parts.levels (length parts.levels - 1) []) (λ (node : Node). node.unit)

  module _ (node : ℕ) (below : node < length parts.tops) where
    inside : node < length (slice_index_or parts.levels (length parts.levels - 1) [])
    inside = subst (λ n. node < n) tops-count below

    pub last-below : length parts.levels - 1 < length parts.levels
    last-below = omega (arith, some-levels)

    -- there is a level below
    pub last-row : length parts.levels - 1 ≤ length climbed.levels.rows.items
    last-row = omega (arith, last-below, is_climbed.enough)

    -- what it carries is not too much for a top
    pub top-takes : (d : Node) → CanTake climbed.width (level_lanes lanes climbed.levels (length parts.levels - 1)) (slice_index_or (slice_index_or parts.levels (length parts.levels - 1) []) node d)
    top-takes d = can-take parts has climbed.width lanes is_climbed.losses (length parts.levels - 1) last-below (level_lanes lanes climbed.levels (length parts.levels - 1)) (is_climbed.rows (length parts.levels - 1) last-below) node d inside

    -- a top in its place
    pub same-top : (d : Node) → slice_index_or (slice_index_or parts.levels (length parts.levels - 1) []) node d ≡ node_at (slice_index_or parts.levels (length parts.levels - 1) []) node
    same-top d = get_or_default (slice_index_or parts.levels (length parts.levels - 1) []) node d no_node inside

    -- the losses that come to it
    pub top-base : (lane : List ℕ) → IsLane climbed.width (λ k. sum (child_losses (column k (level_lanes lanes climbed.levels (length parts.levels - 1))) (node_at (slice_index_or parts.levels (length parts.levels - 1) []) node))) lane → IsTopBase parts lanes climbed.width node lane
    top-base lane is = record {
      wide = is.wide;
      each = λ k less. is.each k less ∙ ap (λ row. sum (child_losses row (node_at (slice_index_or parts.levels (length parts.levels - 1) []) node))) ((is_climbed.rows (length parts.levels - 1) last-below).each k less);
    }

    pub top-few : (k : ℕ) → k < climbed.width → sum (top_losses parts lanes node k) ≤ 10 ^ 16
    top-few k less =
        subst (λ row. sum (child_losses row (node_at (slice_index_or parts.levels (length parts.levels - 1) []) node)) ≤ 10 ^ 16) ((is_climbed.rows (length parts.levels - 1) last-below).each k less)
        (few-of (top-takes no_node) k less)
      where
        few-of : {width : ℕ} {row : List (List ℕ)} {node : Node} → CanTake width row node → (k : ℕ) → k < width → sum (child_losses (column k row) node) ≤ 10 ^ 16
        few-of can k less = can.few k less

    -- they are those of the tree
    base-loss : (tree : Tree) → IsProgramme tree parts → (k : ℕ) → (base_of tree (loss_by tree.ids (column k lanes)) tree.top_level (slice_index tree.tops node)).loss ≡ sum (top_losses parts lanes node k)
    base-loss tree is k =
        let row = row_of parts (column k lanes) (length parts.levels - 1) in
        let nodes = slice_index_or parts.levels (length parts.levels - 1) [] in
        ap (λ (carry : Carry). carry.loss)
        (sym (base-at tree (loss_by tree.ids (column k lanes)) parts (carried_at parts lanes k) is (carries tree is k) node (whole_loss 0) below)
        ∙ get_or-map (child_sum row) nodes node no_node (whole_loss 0) inside)
        ∙ child_sum-loss row (node_at nodes node)

    -- what the terms of a layer leave of them are its policy losses
    pub policies : (layer : ℕ) (terms : Profile) (tiv : ℕ) → ((tree : Tree) → IsProgramme tree parts → terms ≡ tree.layer_profile (slice_index tree.tops node) layer) → ((tree : Tree) → IsProgramme tree parts → tiv ≡ tree.tiv tree.top_level (slice_index tree.tops node)) → ((tree : Tree) → IsProgramme tree parts → looks_back (tree.layer_profile (slice_index tree.tops node) layer).rule ≡ false)
        → (base policy : List ℕ) → IsTopBase parts lanes climbed.width node base → IsLane (length base) (λ k. loss_after terms tiv (slice_index base k)) policy → IsPolicy parts lanes climbed.width node layer policy
    policies layer terms tiv terms_are tiv_is plain base policy base_is policy_is = record {
      wide = policy_is.wide ∙ base_is.wide;
      backed = λ k less. omega (arith, each k less, loss_after-le terms (shares_of terms profile) tiv (sum (top_losses parts lanes node k)));
      policy_is = λ tree is k less.
          let top = slice_index tree.tops node in
          each k less
          ∙ (ap (λ p. loss_after p tiv (sum (top_losses parts lanes node k))) (terms_are tree is)
          ∙ (ap (λ n. loss_after (tree.layer_profile top layer) n (sum (top_losses parts lanes node k))) (tiv_is tree is)
          ∙ (ap (loss_after (tree.layer_profile top layer) (tree.tiv tree.top_level top)) (sym (base-loss tree is k))
          ∙ sym (loss-alone (tree.layer_profile top layer) (plain tree is) (tree.tiv tree.top_level top) (base_of tree (loss_by tree.ids (column k lanes)) tree.top_level top)))));
    }
      where
        profile : IsProfile terms
        profile = subst IsProfile (sym (terms_are has.tree has.is)) (has.is.is.layer_profiles (slice_index has.tree.tops node) layer)

        each : (k : ℕ) → k < climbed.width → slice_index policy k ≡ loss_after terms tiv (sum (top_losses parts lanes node k))
        each k less = policy_is.each k (subst (λ n. k < n) (sym base_is.wide) less) ∙ ap (loss_after terms tiv) (base_is.each k less)

    -- ---- shared out at once

    -- the ids beneath are among all
    pub beneath-members : (ids all : List ℕ) → ids ≡ slice_index_or parts.beneath node [] → all ≡ parts.ids → AllByRecursion (λ id. list_any (nat_eq id) all ≡ true) ids
    beneath-members ids all ids_are all_are =
        subst (λ xs. AllByRecursion (λ id. list_any (nat_eq id) all ≡ true) xs) (sym (ids_are ∙ beneath-are has.tree parts has.is node below))
        (subst (λ xs. AllByRecursion (λ id. list_any (nat_eq id) xs ≡ true) (beneath has.tree (slice_index has.tree.tops node))) (sym (all_are ∙ has.is.ids_are))
        (kept (λ id. list_any (nat_eq id) has.tree.ids ≡ true) (comes_to has.tree has.tree.top_level (slice_index has.tree.tops node)) has.tree.ids (each_member has.tree.ids)))
      where
        kept : (P : ℕ → Type 0) (test : ℕ → Bool) (xs : List ℕ) → AllByRecursion P xs → AllByRecursion P (filter test xs)
        kept P test [] all = tt
        kept P test (x ∷ xs) all = by (test x) (kept P test xs all.1)
          where
            by : (b : Bool) → AllByRecursion P (filter test xs) → AllByRecursion P (cond b (x ∷ filter test xs) (filter test xs))
            by true rest = (all.0, rest)
            by false rest = rest

    -- the losses in their places are theirs
    pub losses-in : (tree : Tree) → IsProgramme tree parts → (places : List ℕ) → All (λ place. place < length parts.ids) places → map (slice_index parts.ids) places ≡ slice_index_or parts.beneath node [] → (k : ℕ) → map (slice_index (column k lanes)) places ≡ map (loss_by tree.ids (column k lanes)) (beneath tree (slice_index tree.tops node))
    losses-in tree is places within found k =
        map-agree (slice_index (column k lanes)) (λ place. loss_by tree.ids (column k lanes) (slice_index parts.ids place)) places
        (λ j d less. sym (at (slice_index_or places j d) (within j d less)))
        ∙ (sym (map-map (loss_by tree.ids (column k lanes)) (slice_index parts.ids) places)
        ∙ ap (map (loss_by tree.ids (column k lanes))) (found ∙ beneath-are tree parts is node below))
      where
        at : (place : ℕ) → place < length parts.ids → loss_by tree.ids (column k lanes) (slice_index parts.ids place) ≡ slice_index (column k lanes) place
        at place less =
            ap (λ ids. loss_by tree.ids (column k lanes) (slice_index ids place)) is.ids_are
            ∙ loss_by-at tree.ids (column k lanes) is.is.ids_once (same-length k ∙ ap length is.ids_are) place (subst (λ ids. place < length ids) is.ids_are less)

    module _ (layer : ℕ) (policy : List ℕ) (is_policy : IsPolicy parts lanes climbed.width node layer policy) where
      -- policy losses are not above the losses beneath
      pub beneath-few : (places : List ℕ) → All (λ place. place < length parts.ids) places → map (slice_index parts.ids) places ≡ slice_index_or parts.beneath node [] → (losses : List (List ℕ)) → AreLanes climbed.width (length places) (λ k. map (slice_index (column k lanes)) places) losses → (k : ℕ) → k < climbed.width → (slice_index policy k ≤ sum (column k losses)) × (sum (column k losses) ≤ 10 ^ 16)
      beneath-few places within found losses are k less =
          losses-few parts (carried_at parts lanes k) (carried k less) node layer (slice_index policy k) (column k losses) (is_policy.policy_is has.tree has.is k less) (are.each k less ∙ losses-in has.tree has.is places within found k)

      -- ---- shared down

      abbrev amounts : ℕ → List PlacedPart
      amounts k = record { place = node; amount = slice_index policy k } ∷ []

      policy-le : (k : ℕ) → k < climbed.width → slice_index policy k ≤ 10 ^ 16
      policy-le k less = omega (arith, is_policy.backed k less, top-few k less)

      -- policy losses can be given down
      pub top-gives : (k : ℕ) → k < climbed.width → CanGive parts (column k lanes) (length parts.levels) (record { place = node; amount = slice_index policy k } ∷ [])
      top-gives k less = record {
        can = top-can parts (carried_at parts lanes k) (carried k less) false node (slice_index policy k) below (policy-le k less);
        backed = λ next is.
            let last : length parts.levels - 1 ≡ next = omega arith in
            (subst (λ n. slice_index policy k ≤ sum (child_losses (losses_of (row_of parts (column k lanes) n)) (node_at (slice_index_or parts.levels n []) node))) last (is_policy.backed k less), tt);
      }

      module _ (given : ℕ → List PlacedPart) (given_are : (k : ℕ) → k < climbed.width → given k ≡ levels_down false parts.levels (carried_at parts lanes k).rows (length parts.levels) (record { place = node; amount = slice_index policy k } ∷ [])) where
        -- what was given to the ids is what the tree shares down
        pub given-shared : (ids : List ℕ) → ids ≡ slice_index_or parts.beneath node [] → (before now : List (List ℕ)) → AreBehind climbed.width (length ids) (λ k. map (part_of (unit_parts (units_at parts 0) (given k))) ids) before now → (tree : Tree) → IsProgramme tree parts → AreBehind climbed.width (length (beneath tree (slice_index tree.tops node))) (λ k. shared_down tree (loss_by tree.ids (column k lanes)) (slice_index tree.tops node) layer) before now
        given-shared ids ids_are before now are tree is =
            behind-are climbed.width (length ids) (length (beneath tree (slice_index tree.tops node))) (λ k. map (part_of (unit_parts (units_at parts 0) (given k))) ids) (λ k. shared_down tree (loss_by tree.ids (column k lanes)) (slice_index tree.tops node) layer) before now are
            (ap length (ids_are ∙ beneath-are tree parts is node below))
            (λ k less.
            down-are parts (carried_at parts lanes k) (carried k less) node layer (slice_index policy k) below (policy-le k less) tree (loss_by tree.ids (column k lanes)) is (carries tree is k) (is_policy.policy_is tree is k less) (given k) ids (map (part_of (unit_parts (units_at parts 0) (given k))) ids) (given_are k less) ids_are refl)

      -- ---- at once

      pub at-once : (places : List ℕ) → All (λ place. place < length parts.ids) places → map (slice_index parts.ids) places ≡ slice_index_or parts.beneath node [] → (losses : List (List ℕ)) → AreLanes climbed.width (length places) (λ k. map (slice_index (column k lanes)) places) losses → (before now : List (List ℕ)) → AreBehind climbed.width (length losses) (λ k. share_out (slice_index policy k) (column k losses)) before now
          → (tree : Tree) → IsProgramme tree parts → AreBehind climbed.width (length (beneath tree (slice_index tree.tops node))) (λ k. shared_at_once tree (loss_by tree.ids (column k lanes)) (slice_index tree.tops node) layer) before now
      at-once places within found losses losses_are before now shares_are tree is =
          behind-are climbed.width (length losses) (length (beneath tree (slice_index tree.tops node))) (λ k. share_out (slice_index policy k) (column k losses)) (λ k. shared_at_once tree (loss_by tree.ids (column k lanes)) (slice_index tree.tops node) layer) before now shares_are
          (losses_are.count_is ∙ (sym (length-map places (slice_index parts.ids)) ∙ ap length (found ∙ beneath-are tree parts is node below)))
          (λ k less.
          ap (share_out (slice_index policy k)) (losses_are.each k less ∙ losses-in tree is places within found k)
          ∙ ap (λ n. share_out n (map (loss_by tree.ids (column k lanes)) (beneath tree (slice_index tree.tops node)))) (is_policy.policy_is tree is k less))
