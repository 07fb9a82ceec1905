-- Laws of lanes that are carried up.
-- The rules: docs/FINANCIAL_MODULE.md, "Levels".
use Rattle.std.specs.Prelude.{◌≡◌, ◌⊎◌, ℕ, zero, suc, ◌+◌, ◌<◌, ◌≤◌, ◌^◌, false, List, [], ◌∷◌, ◌++◌, All, length, map, take, drop, slice_index, slice_index_or}
use Rattle.std.specs.List.{range_with_len, sum, sum_by}
use Rattle.std.proofs.Common.{inl, inr, refl, sym, ap, subst, ◌∙◌, arith}
use Rattle.std.proofs.lemmas.Bool.{cases_lt}
use Rattle.std.proofs.lemmas.List.{length-map, take-map, drop-map}
use Rattle.std.proofs.lemmas.List.FromFn.{fill_by_all, length-range_with_len}
use Rattle.std.proofs.lemmas.List.Sums.{sum_by-cons, sum-map}
use Rattle.kt_rules.specs.Amounts.{total}
use Rattle.kt_rules.specs.LossAlone.{looks_back, loss_after, loss-alone}
use Rattle.kt_rules.specs.Profiles.{IsProfile}
use Rattle.kt_rules.specs.declared.carry.Carry.{Carry}
use Rattle.kt_rec.specs.Sums.{sum_by-below}
use Rattle.kt_fmtree.specs.Tree.{whole_loss}
use Rattle.kt_fmtree.specs.Parts.{Parts, IsNode, HasProgramme, units_at}
use Rattle.kt_fmtree.specs.Carried.{added, child_sum, node_carry, leaf_row, row_of, CanCarry}
use Rattle.kt_fmtree.specs.CarriedLaws.{can-carry}
use Rattle.kt_rec.specs.ListLaws.{map-agree, map-map}
use Rattle.kt_fmtree.specs.declared.node.Node.{Node}
use Rattle.kt_lanes.specs.Lanes.{column, AreLanes, AreWide}
use Rattle.kt_levels.specs.Units.{losses_of, child_losses, unit_loss, CanTake}
use Rattle.kt_lanes.specs.LaneLaws.{lanes-are, length-more}
use Rattle.kt_levels.specs.Climbed.{HasPlainUnits, AreLevel, AreLosses, leaf_lanes, level_lanes}
use Rattle.kt_levels.specs.declared.climbing.Levels.{Levels}

-- ---- losses of children

added-loss : (children : List Carry) → (added children).loss ≡ sum (losses_of children)
added-loss [] = refl
added-loss (carry ∷ children) = omega (arith, sum_by-cons (λ (n : ℕ). n) carry.loss (losses_of children), added-loss children)

pub child_losses-of : (row : List Carry) (node : Node) → child_losses (losses_of row) node ≡ losses_of (take node.width (drop node.start row))
child_losses-of row node =
    ap (take node.width) (drop-map (λ (carry : Carry). carry.loss) node.start row) ∙ take-map (λ (carry : Carry). carry.loss) node.width (drop node.start row)

-- what comes to a node has the losses of its children
pub child_sum-loss : (row : List Carry) (node : Node) → (child_sum row node).loss ≡ sum (child_losses (losses_of row) node)
child_sum-loss row node = added-loss (take node.width (drop node.start row)) ∙ ap sum (sym (child_losses-of row node))

-- which are not above all that comes to it
pub child_losses-le : (row : List Carry) (node : Node) → sum (child_losses (losses_of row) node) ≤ sum_by total (take node.width (drop node.start row))
child_losses-le row node =
    let children = take node.width (drop node.start row) in
    omega (arith, ap sum (child_losses-of row node), sum-map (λ (carry : Carry). carry.loss) children, sum_by-below (λ (carry : Carry). carry.loss) total children few)
  where
    few : (carry : Carry) → carry.loss ≤ total carry
    few carry = omega arith

-- what a node carries, by a rule that sees the loss alone
pub node_carry-loss : (row : List Carry) (node : Node) → looks_back node.profile.rule ≡ false → (node_carry row node).loss ≡ unit_loss (losses_of row) node
node_carry-loss row node plain =
    loss-alone node.profile plain node.tiv (child_sum row node) ∙ ap (loss_after node.profile node.tiv) (child_sum-loss row node)

-- ---- lanes in all places

-- what stands in each place, from the first on
pub all-in-turn : (xs : List ℕ) → map (slice_index xs) (range_with_len 0 (length xs)) ≡ xs
all-in-turn xs = sym (fill_by_all (slice_index xs) xs (length xs) 0 refl (λ k below. refl))

pub lanes-in-turn : (width : ℕ) (places : List ℕ) (lanes : List (List ℕ)) → AreWide width lanes → places ≡ range_with_len 0 (length lanes) → AreLanes width (length places) (λ k. map (slice_index (column k lanes)) places) lanes
lanes-in-turn width places lanes wide places_are = record {
  count_is = sym (ap length places_are ∙ length-range_with_len 0 (length lanes));
  wide = wide;
  each = λ k below.
      sym (ap (map (slice_index (column k lanes))) (places_are ∙ ap (range_with_len 0) (sym (length-map lanes (λ (one : List ℕ). slice_index one k))))
      ∙ all-in-turn (column k lanes));
}

-- ---- a level

module _ (parts : Parts) (has : HasProgramme parts) (width : ℕ) (lanes : List (List ℕ)) (losses : AreLosses parts width lanes) where
  same-length : (k : ℕ) → length (column k lanes) ≡ length has.tree.ids
  same-length k = length-map lanes (λ (one : List ℕ). slice_index one k) ∙ (losses.count_is ∙ ap length has.is.ids_are)

  pub under-top : (level : ℕ) → level < length parts.levels → level < has.tree.top_level
  under-top level below = subst (λ n. level < n) has.is.levels_are below

  -- what the level below carries is not too much
  pub can-take : (level : ℕ) → level < length parts.levels → (below : List (List ℕ)) → AreLevel parts lanes width level below → All (CanTake width below) (slice_index_or parts.levels level [])
  can-take level inside below are = λ j d within. one (slice_index_or (slice_index_or parts.levels level []) j d) (has.is.nodes_are level (under-top level inside) j d within) (λ k less. can-carry has.tree parts has.is (column k lanes) (same-length k) (losses.few k less) level (under-top level inside) j d within)
    where
      one : (node : Node) → IsNode has.tree (suc level) (units_at parts level) node → ((k : ℕ) → k < width → CanCarry (row_of parts (column k lanes) level) node) → CanTake width below node
      one node right can = record {
        within = omega (arith, right.within, are.count_is);
        few = λ k less.
            let enough = can k less in
            subst (λ row. sum (child_losses row node) ≤ 10 ^ 16) (sym (are.each k less)) (omega (arith, child_losses-le (row_of parts (column k lanes) level) node, enough.few));
        profile = subst IsProfile (sym right.profile_is) (has.is.is.profiles (suc level) node.unit);
        value = omega (arith, right.tiv_is, has.is.is.values (suc level) node.unit);
      }

  -- the lanes of the ids are those of level 0
  pub leaves-level : (row : List (List ℕ)) (places : List ℕ) → places ≡ parts.leaves → AreLanes width (length places) (λ k. map (slice_index (column k lanes)) places) row → AreLevel parts lanes width 0 row
  leaves-level row places places_are are =
      lanes-are width (length places) (length (units_at parts 0)) (λ k. map (slice_index (column k lanes)) places) (λ k. losses_of (leaf_row parts.leaves (column k lanes))) row are
      (ap length places_are ∙ sym (length-map parts.leaves (slice_index parts.ids)))
      (λ k less. ap (map (slice_index (column k lanes))) places_are ∙ sym (map-map (λ (carry : Carry). carry.loss) (λ place. whole_loss (slice_index (column k lanes) place)) parts.leaves))

  -- what the units of a level leave is the next level
  pub next-level : HasPlainUnits parts → (level : ℕ) → level < length parts.levels → (below row : List (List ℕ)) (nodes : List Node) → nodes ≡ slice_index_or parts.levels level [] → AreLevel parts lanes width level below → AreLanes width (length nodes) (λ k. map (unit_loss (column k below)) nodes) row → AreLevel parts lanes width (level + 1) row
  next-level plain level inside below row nodes nodes_are are made =
      let next : suc level ≡ level + 1 = omega arith in
      let all = slice_index_or parts.levels level [] in
      subst (λ n. AreLevel parts lanes width n row) next
      (lanes-are width (length nodes) (length (units_at parts (suc level))) (λ k. map (unit_loss (column k below)) nodes) (λ k. losses_of (row_of parts (column k lanes) (suc level))) row made
      (ap length nodes_are ∙ sym (length-map all (λ (node : Node). node.unit)))
      (λ k less.
      let before = row_of parts (column k lanes) level in
      ap (map (unit_loss (column k below))) nodes_are
      ∙ (ap (λ losses. map (unit_loss losses) all) (are.each k less)
      ∙ (map-agree (unit_loss (losses_of before)) (λ node. (node_carry before node).loss) all (λ j d within. sym (node_carry-loss before (slice_index_or all j d) (plain level inside j d within)))
      ∙ sym (map-map (λ (carry : Carry). carry.loss) (node_carry before) all)))))

-- ---- levels

-- so many levels have their lanes
pub record HasLevels (parts : Parts) (lanes : List (List ℕ)) (width n : ℕ) (levels : Levels) : Type 0 where
  pub count_is : length levels.rows.items + 1 ≡ n
  pub each : (level : ℕ) → level < n → AreLevel parts lanes width level (level_lanes lanes levels level)

row-old : (rows : List (List (List ℕ))) (row : List (List ℕ)) (level : ℕ) → level < length rows → slice_index_or (rows ++ row ∷ []) level [] ≡ slice_index_or rows level []
row-old [] row level below = absurd (omega arith)
row-old (first ∷ rows) row zero below = refl
row-old (first ∷ rows) row (suc level) below = row-old rows row level (omega arith)

row-new : (rows : List (List (List ℕ))) (row : List (List ℕ)) (level : ℕ) → length rows ≡ level → slice_index_or (rows ++ row ∷ []) level [] ≡ row
row-new [] row zero same = refl
row-new [] row (suc level) same = absurd (omega arith)
row-new (first ∷ rows) row zero same = absurd (omega arith)
row-new (first ∷ rows) row (suc level) same = row-new rows row level (omega arith)

-- the first level
pub levels-one : (parts : Parts) (lanes : List (List ℕ)) (width : ℕ) (levels : Levels) → levels.rows.items ≡ [] → AreLevel parts lanes width 0 (leaf_lanes lanes levels.leaves) → HasLevels parts lanes width 1 levels
levels-one parts lanes width levels none are = record { count_is = omega (arith, ap length none); each = by }
  where
    by : (level : ℕ) → level < 1 → AreLevel parts lanes width level (level_lanes lanes levels level)
    by zero below = are
    by (suc level) below = absurd (omega arith)

-- one more level
pub levels-more : (parts : Parts) (lanes : List (List ℕ)) (width n : ℕ) (levels more : Levels) (row : List (List ℕ)) → HasLevels parts lanes width n levels → more.leaves ≡ levels.leaves → more.rows.items ≡ levels.rows.items ++ row ∷ [] → AreLevel parts lanes width n row → HasLevels parts lanes width (n + 1) more
levels-more parts lanes width n levels more row has leaves_are rows_are are = record {
  count_is = omega (arith, ap length rows_are, length-more levels.rows.items row, has.count_is);
  each = λ level below. by level below (cases_lt level n);
}
  where
    by : (level : ℕ) → level < n + 1 → (level < n) ⊎ (n ≤ level) → AreLevel parts lanes width level (level_lanes lanes more level)
    by zero below (inl less) = subst (AreLevel parts lanes width 0) (sym (ap (leaf_lanes lanes) leaves_are)) (has.each 0 less)
    by zero below (inr most) = absurd (omega (arith, has.count_is))
    by (suc level) below (inl less) =
        subst (AreLevel parts lanes width (suc level)) (sym (ap (λ rows. slice_index_or rows level []) rows_are ∙ row-old levels.rows.items row level (omega (arith, has.count_is)))) (has.each (suc level) less)
    by (suc level) below (inr most) =
        let here : n ≡ suc level = omega arith in
        subst (AreLevel parts lanes width (suc level)) (sym (ap (λ rows. slice_index_or rows level []) rows_are ∙ row-new levels.rows.items row level (omega (arith, has.count_is, here)))) (subst (λ m. AreLevel parts lanes width m row) here are)
