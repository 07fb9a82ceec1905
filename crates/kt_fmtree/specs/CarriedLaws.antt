-- The lists of what is carried are those of the tree.
-- The rule: docs/FINANCIAL_MODULE.md, "Levels".
use Rattle.std.specs.Prelude.{◌≡◌, ℕ, zero, suc, ◌+◌, ◌≤◌, ◌<◌, ◌^◌, cond, nat_eq, false, List, [], ◌∷◌, length, map, take, drop, All, slice_index, slice_index_or}
use Rattle.std.specs.List.{AllByRecursion, IsDistinct, range_with_len, sum, sum_by}
use Rattle.std.specs.Cmp.{nat_eq_equiv}
use Rattle.std.proofs.Common.{refl, sym, ap, subst, ◌∙◌, arith}
use Rattle.std.proofs.lemmas.List.{take-map, length-map}
use Rattle.std.proofs.lemmas.List.FromFn.{get_or-map-range_with_len}
use Rattle.std.proofs.lemmas.List.Sums.{sum_by-cons, sum-map}
use Rattle.kt_rec.specs.ListLaws.{drop-map, map-agree, map-map}
use Rattle.kt_rules.specs.Amounts.{total}
use Rattle.kt_rules.specs.Profiles.{IsProfile}
use Rattle.kt_rules.specs.Rules.{applied}
use Rattle.kt_rules.specs.declared.carry.Carry.{Carry}
use Rattle.kt_rec.specs.Sums.{sum_by-agree}
use Rattle.kt_fmtree.specs.Tree.{Tree, whole_loss, add_carries, sum_carries, carry_of, base_of, ground_up}
use Rattle.kt_fmtree.specs.TreeLaws.{each, carry_of-total, ground_up-few}
use Rattle.kt_fmtree.specs.Parts.{Parts, IsNode, IsProgramme, nodes_at, units_at}
use Rattle.kt_fmtree.specs.Carried.{Carried, added, child_sum, node_carry, leaf_row, row_of, loss_by, CanCarry, AreCarried}
use Rattle.kt_fmtree.specs.declared.node.Node.{Node}

-- ---- losses by id

-- the losses of distinct ids are those in their places
pub loss_by-at : (ids losses : List ℕ) → IsDistinct nat_eq ids → length losses ≡ length ids → (place : ℕ) → place < length ids → loss_by ids losses (slice_index ids place) ≡ slice_index losses place
unfolding IsDistinct
loss_by-at [] losses distinct same place below = absurd (omega arith)
loss_by-at (id ∷ ids) [] distinct same place below = absurd (omega arith)
loss_by-at (id ∷ ids) (loss ∷ losses) distinct same zero below = ap (λ b. cond b loss (loss_by ids losses id)) (nat_eq_equiv.refl id)
loss_by-at (id ∷ ids) (loss ∷ losses) distinct same (suc place) below =
    let other = apart ids distinct.0 place (omega arith) in
    ap (λ b. cond b loss (loss_by ids losses (slice_index ids place))) other ∙ loss_by-at ids losses distinct.1 (omega arith) place (omega arith)
  where
    apart : (rest : List ℕ) → AllByRecursion (λ other. nat_eq id other ≡ false) rest → (place : ℕ) → place < length rest → nat_eq id (slice_index rest place) ≡ false
    apart [] all place below = absurd (omega arith)
    apart (other ∷ rest) all zero below = all.0
    apart (other ∷ rest) all (suc place) below = apart rest all.1 place (omega arith)

-- so they are the losses in order
pub loss_by-map : (ids losses : List ℕ) → IsDistinct nat_eq ids → length losses ≡ length ids → map (loss_by ids losses) ids ≡ losses
unfolding IsDistinct
loss_by-map [] [] distinct same = refl
loss_by-map [] (loss ∷ losses) distinct same = absurd (omega arith)
loss_by-map (id ∷ ids) [] distinct same = absurd (omega arith)
loss_by-map (id ∷ ids) (loss ∷ losses) distinct same =
    let first : loss_by (id ∷ ids) (loss ∷ losses) id ≡ loss = ap (λ b. cond b loss (loss_by ids losses id)) (nat_eq_equiv.refl id) in
    let rest : map (loss_by (id ∷ ids) (loss ∷ losses)) ids ≡ losses = map-agree (loss_by (id ∷ ids) (loss ∷ losses)) (loss_by ids losses) ids (others ids distinct.0) ∙ loss_by-map ids losses distinct.1 (omega arith) in
    rw (first, rest) refl
  where
    others : (rest : List ℕ) → AllByRecursion (λ other. nat_eq id other ≡ false) rest → All (λ other. cond (nat_eq id other) loss (loss_by ids losses other) ≡ loss_by ids losses other) rest
    others [] all = λ k d below. absurd (omega arith)
    others (other ∷ rest) all = λ k d below. elim k as (λ n. n < length (other ∷ rest) → cond (nat_eq id (slice_index_or (other ∷ rest) n d)) loss (loss_by ids losses (slice_index_or (other ∷ rest) n d)) ≡ loss_by ids losses (slice_index_or (other ∷ rest) n d)) [ zero ↦ λ _. ap (λ b. cond b loss (loss_by ids losses other)) all.0 | suc n ↦ λ b. others rest all.1 n d (omega arith) ] below

-- ---- what comes to a node

added-map : (f : ℕ → Carry) (units : List ℕ) → added (map f units) ≡ sum_carries f units
added-map f [] = refl
added-map f (unit ∷ units) = ap (add_carries (f unit)) (added-map f units)

-- the children of a node, among what the level below carries
pub children-of : (tree : Tree) (level : ℕ) (below : List ℕ) (node : Node) → IsNode tree level below node → (f : ℕ → Carry) → take node.width (drop node.start (map f below)) ≡ map f (tree.children level node.unit)
children-of tree level below node is f =
    ap (take node.width) (drop-map f node.start below) ∙ (take-map f node.width (drop node.start below) ∙ ap (map f) is.children_are)

child_sum-is : (tree : Tree) (level : ℕ) (below : List ℕ) (node : Node) → IsNode tree level below node → (f : ℕ → Carry) → child_sum (map f below) node ≡ sum_carries f (tree.children level node.unit)
child_sum-is tree level below node is f = ap added (children-of tree level below node is f) ∙ added-map f (tree.children level node.unit)

-- ---- levels

module _ (tree : Tree) (parts : Parts) (is : IsProgramme tree parts) (losses : List ℕ) (same : length losses ≡ length tree.ids) where
  leaves-are : leaf_row parts.leaves losses ≡ map (carry_of tree (loss_by tree.ids losses) 0) (units_at parts 0)
  leaves-are =
      map-agree (λ place. whole_loss (slice_index losses place)) (λ place. whole_loss (loss_by tree.ids losses (slice_index parts.ids place))) parts.leaves
      (λ k d below. ap whole_loss (sym (at (slice_index_or parts.leaves k d) (is.leaves_within k d below))))
      ∙ sym (map-map (λ id. whole_loss (loss_by tree.ids losses id)) (slice_index parts.ids) parts.leaves)
    where
      at : (place : ℕ) → place < length parts.ids → loss_by tree.ids losses (slice_index parts.ids place) ≡ slice_index losses place
      at place below =
          ap (λ ids. loss_by tree.ids losses (slice_index ids place)) is.ids_are
          ∙ loss_by-at tree.ids losses is.is.ids_once same place (subst (λ ids. place < length ids) is.ids_are below)

  -- the units of a level below the top level carry what they do in the tree
  pub row_of-is : (level : ℕ) → level < tree.top_level → row_of parts losses level ≡ map (carry_of tree (loss_by tree.ids losses) level) (units_at parts level)
  row_of-is zero below = leaves-are
  row_of-is (suc level) below =
      let before = row_of-is level (omega arith) in
      let carry = carry_of tree (loss_by tree.ids losses) level in
      ap (λ row. map (node_carry row) (nodes_at parts (suc level))) before
      ∙ (map-agree (node_carry (map carry (units_at parts level))) (λ node. carry_of tree (loss_by tree.ids losses) (suc level) node.unit) (nodes_at parts (suc level))
      (λ k d inside. one (slice_index_or (nodes_at parts (suc level)) k d) (is.nodes_are level (omega arith) k d inside))
      ∙ sym (map-map (carry_of tree (loss_by tree.ids losses) (suc level)) (λ node. node.unit) (nodes_at parts (suc level))))
    where
      one : (node : Node) → IsNode tree (suc level) (units_at parts level) node → node_carry (map (carry_of tree (loss_by tree.ids losses) level) (units_at parts level)) node ≡ carry_of tree (loss_by tree.ids losses) (suc level) node.unit
      one node right =
          ap (applied node.profile node.tiv) (child_sum-is tree (suc level) (units_at parts level) node right (carry_of tree (loss_by tree.ids losses) level))
          ∙ (ap (λ terms. applied terms node.tiv (sum_carries (carry_of tree (loss_by tree.ids losses) level) (tree.children (suc level) node.unit))) right.profile_is
          ∙ ap (λ tiv. applied (tree.profile (suc level) node.unit) tiv (sum_carries (carry_of tree (loss_by tree.ids losses) level) (tree.children (suc level) node.unit))) right.tiv_is)

  -- what comes to the units of the top level is what does in the tree
  pub bases-are : (last : ℕ) → suc last ≡ tree.top_level → map (child_sum (row_of parts losses last)) (nodes_at parts (suc last)) ≡ map (base_of tree (loss_by tree.ids losses) tree.top_level) tree.tops
  bases-are last top =
      let before = row_of-is last (omega arith) in
      let carry = carry_of tree (loss_by tree.ids losses) last in
      ap (λ row. map (child_sum row) (nodes_at parts (suc last))) before
      ∙ (map-agree (child_sum (map carry (units_at parts last))) (λ node. base_of tree (loss_by tree.ids losses) (suc last) node.unit) (nodes_at parts (suc last))
      (λ k d inside. child_sum-is tree (suc last) (units_at parts last) (slice_index_or (nodes_at parts (suc last)) k d) (is.nodes_are last (omega arith) k d inside) carry)
      ∙ (sym (map-map (base_of tree (loss_by tree.ids losses) (suc last)) (λ node. node.unit) (nodes_at parts (suc last)))
      ∙ (ap (λ level. map (base_of tree (loss_by tree.ids losses) level) (units_at parts level)) top
      ∙ ap (map (base_of tree (loss_by tree.ids losses) tree.top_level)) is.top_units)))

  -- each level up to the top level can be carried to, where the losses add to at most 10^16
  pub can-carry : sum losses ≤ 10 ^ 16 → (level : ℕ) → level < tree.top_level → All (CanCarry (row_of parts losses level)) (nodes_at parts (suc level))
  can-carry few level below = λ k d inside. one (slice_index_or (nodes_at parts (suc level)) k d) (is.nodes_are level below k d inside)
    where
      sum_by-map : (f : Carry → ℕ) (g : ℕ → Carry) (units : List ℕ) → sum_by f (map g units) ≡ sum_by (λ unit. f (g unit)) units
      sum_by-map f g [] = refl
      sum_by-map f g (unit ∷ units) = omega (arith, sum_by-cons f (g unit) (map g units), sum_by-cons (λ x. f (g x)) unit units, sum_by-map f g units)

      sums : (node : Node) → IsNode tree (suc level) (units_at parts level) node → sum_by total (take node.width (drop node.start (map (carry_of tree (loss_by tree.ids losses) level) (units_at parts level)))) ≡ ground_up tree (loss_by tree.ids losses) (suc level) node.unit
      sums node right =
          ap (sum_by total) (children-of tree (suc level) (units_at parts level) node right (carry_of tree (loss_by tree.ids losses) level))
          ∙ (sum_by-map total (carry_of tree (loss_by tree.ids losses) level) (tree.children (suc level) node.unit)
          ∙ sum_by-agree (λ unit. total (carry_of tree (loss_by tree.ids losses) level unit)) (ground_up tree (loss_by tree.ids losses) level) (tree.children (suc level) node.unit) (each (carry_of-total tree is.is (loss_by tree.ids losses) level) (tree.children (suc level) node.unit)))

      all : sum_by (loss_by tree.ids losses) tree.ids ≡ sum losses
      all = sym (sum-map (loss_by tree.ids losses) tree.ids) ∙ ap sum (loss_by-map tree.ids losses is.is.ids_once same)

      one : (node : Node) → IsNode tree (suc level) (units_at parts level) node → CanCarry (row_of parts losses level) node
      one node right =
          subst (λ row. CanCarry row node) (sym (row_of-is level below))
          (record {
            within = subst (λ n. node.start + node.width ≤ n) (sym (length-map (units_at parts level) (carry_of tree (loss_by tree.ids losses) level))) right.within;
            few = omega (arith, sums node right, ground_up-few tree is.is (loss_by tree.ids losses) level node.unit, all, few);
            profile = subst IsProfile (sym right.profile_is) (is.is.profiles (suc level) node.unit);
            value = omega (arith, right.tiv_is, is.is.values (suc level) node.unit);
          })

  -- all levels and the top level, as they are kept
  pub carried-is : (last : ℕ) → suc last ≡ tree.top_level → (carried : Carried) → carried.rows ≡ map (row_of parts losses) (range_with_len 0 (last + 1)) → carried.bases ≡ map (child_sum (row_of parts losses last)) (nodes_at parts (suc last)) → AreCarried tree (loss_by tree.ids losses) parts carried
  carried-is last top carried rows bases =
      record {
        rows_are = λ level below. ap (λ all. slice_index_or all level []) rows ∙ (get_or-map-range_with_len (row_of parts losses) 0 (last + 1) level level [] (omega arith) (omega arith) ∙ row_of-is level below);
        bases_are = bases ∙ bases-are last top;
      }

  -- the losses of a programme add to at most 10^16
  pub losses-few : sum losses ≤ 10 ^ 16 → sum (map (loss_by tree.ids losses) tree.ids) ≤ 10 ^ 16
  losses-few few = subst (λ all. sum all ≤ 10 ^ 16) (sym (loss_by-map tree.ids losses is.is.ids_once same)) few
