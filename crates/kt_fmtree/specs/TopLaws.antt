-- What lies beneath different tops is apart: the losses beneath all of them are not more than those of all ids.
-- The rules: docs/FINANCIAL_MODULE.md, "Levels", "Policy losses".
use Rattle.std.specs.Prelude.{◌≡◌, ℕ, ◌*◌, ◌≤◌, Bool, true, false, cond, nat_eq, List, [], ◌∷◌, Option, Some, None, length}
use Rattle.std.specs.List.{IsDistinct, list_any, sum_by}
use Rattle.std.proofs.Common.{arith, mul-le-mul_right}
use Rattle.std.proofs.lemmas.List.Sums.{sum_by-cons, sum_by-le}
use Rattle.kt_keys.specs.Climbing.{climbed}
use Rattle.kt_rec.specs.Sums.{sum_by-agree, sum_by-below, sum_by-none, sum_by-one, sum_by-swap}
use Rattle.kt_fmtree.specs.Tree.{Tree, IsTree, comes_to, ground_up, is_unit, policy_loss}
use Rattle.kt_fmtree.specs.TreeLaws.{each, ground_up-gathered, policy_loss-le}

module _ (tree : Tree) (is : IsTree tree) (losses : ℕ → ℕ) where
  -- an id comes to one top at the most, so its loss counts once
  counts-once : IsDistinct nat_eq tree.tops → (id : ℕ) → sum_by (λ top. cond (comes_to tree tree.top_level top id) (losses id) 0) tree.tops ≤ losses id
  counts-once once id = by (climbed tree.next tree.top_level 1 id)
    where
      few : (b : Bool) → cond b (losses id) 0 ≤ losses id
      few true = omega arith
      few false = omega arith

      by : (found : Option ℕ) → sum_by (λ top. cond (is_unit top found) (losses id) 0) tree.tops ≤ losses id
      by None = omega (arith, sum_by-none tree.tops)
      by (Some unit) = omega (arith, sum_by-one (losses id) unit tree.tops once, few (list_any (nat_eq unit) tree.tops))

  -- the ground-up losses beneath all tops are not more than those of all ids
  pub tops-few : IsDistinct nat_eq tree.tops → sum_by (ground_up tree losses tree.top_level) tree.tops ≤ sum_by losses tree.ids
  tops-few once =
      omega (
        arith,
        sum_by-agree (ground_up tree losses tree.top_level) (λ top. sum_by (λ id. cond (comes_to tree tree.top_level top id) (losses id) 0) tree.ids) tree.tops (each gathered tree.tops),
        sum_by-swap (λ top id. cond (comes_to tree tree.top_level top id) (losses id) 0) tree.tops tree.ids,
        sum_by-below (λ id. sum_by (λ top. cond (comes_to tree tree.top_level top id) (losses id) 0) tree.tops) losses tree.ids (counts-once once),
      )
    where
      gathered : (top : ℕ) → ground_up tree losses tree.top_level top ≡ sum_by (λ id. cond (comes_to tree tree.top_level top id) (losses id) 0) tree.ids
      gathered top = ground_up-gathered tree is losses tree.top_level top (λ bottom. absurd (let above = is.levels in omega arith))

  -- where a top has at most 50 layers, their policy losses are not more than 50 times the loss beneath it
  layers-few : (top : ℕ) → length (tree.layers top) ≤ 50 → sum_by (policy_loss tree losses top) (tree.layers top) ≤ 50 * ground_up tree losses tree.top_level top
  layers-few top few =
      omega (
        arith,
        sum_by-le (policy_loss tree losses top) (ground_up tree losses tree.top_level top) (tree.layers top) (λ k layer below. policy_loss-le tree is losses top _),
        mul-le-mul_right (ground_up tree losses tree.top_level top) few,
      )

  -- so all policy losses are not more than 50 times the losses of all ids
  pub policies-few : IsDistinct nat_eq tree.tops → ((top : ℕ) → length (tree.layers top) ≤ 50) → sum_by (λ top. sum_by (policy_loss tree losses top) (tree.layers top)) tree.tops ≤ 50 * sum_by losses tree.ids
  policies-few once few = omega (arith, over tree.tops, tops-few once)
    where
      over : (tops : List ℕ) → sum_by (λ top. sum_by (policy_loss tree losses top) (tree.layers top)) tops ≤ 50 * sum_by (ground_up tree losses tree.top_level) tops
      over [] = omega arith
      over (top ∷ tops) =
          omega (
            arith,
            sum_by-cons (λ top. sum_by (policy_loss tree losses top) (tree.layers top)) top tops,
            sum_by-cons (ground_up tree losses tree.top_level) top tops,
            layers-few top (few top),
            over tops,
          )
