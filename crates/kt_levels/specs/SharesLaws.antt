-- How much layers and ids have of the losses that come in.
-- The rules: docs/FINANCIAL_MODULE.md, "Policy losses", "Allocation".
use Rattle.std.specs.Prelude.{◌≡◌, ℕ, zero, suc, ◌+◌, ◌<◌, ◌≤◌, Bool, true, false, cond, nat_eq, ℤ, List, [], ◌∷◌, length, map}
use Rattle.std.specs.List.{list_any, sum, sum_by}
use Rattle.std.proofs.Common.{refl, ap, arith, ◌∙◌}
use Rattle.std.proofs.lemmas.List.{length-map}
use Rattle.std.proofs.lemmas.List.Sums.{sum-map, sum_by-cons}
use Rattle.kt_money.specs.Sharing.{shares_after, share_out}
use Rattle.kt_stream.specs.declared.entry.LossRecord.{LossRecord}
use Rattle.kt_runs.specs.RunLosses.{loss_of, run_loss}
use Rattle.kt_fmtree.specs.Sharing.{allocated, part_of, policy_parts}
use Rattle.kt_fmtree.specs.SharingLaws.{allocated-sum}
use Rattle.kt_rec.specs.ListLaws.{cond-le}
use Rattle.kt_rec.specs.Sums.{sum_by-below, sum_by-one, sum_by-swap}
use Rattle.kt_fmtree.specs.Tree.{Tree, IsTree, beneath, ground_up, policy_loss}
use Rattle.kt_fmtree.specs.TreeLaws.{ground_up-few, policy_loss-le}
use Rattle.kt_levels.specs.LookupLaws.{lookup-few}
use Rattle.kt_levels.specs.Shares.{part_of_id, shares, taken_loss}
use Rattle.kt_runs.specs.Records.{id_loss}

length-shares_after : (total weights given : ℕ) (rest : List ℕ) → length (shares_after total weights given rest) ≡ length rest
length-shares_after total weights given [] = refl
length-shares_after total weights given (w ∷ rest) = ap suc (length-shares_after total weights (given + w) rest)

-- an amount for each id beneath
pub length-allocated : (tree : Tree) (losses : ℕ → ℕ) (rule top layer : ℕ) → length (allocated tree losses rule top layer) ≡ length (beneath tree top)
length-allocated tree losses rule top layer = by (nat_eq rule 1)
  where
    by : (b : Bool) → length (cond b (share_out (policy_loss tree losses top layer) (map losses (beneath tree top))) (map (part_of (policy_parts tree losses top layer)) (beneath tree top))) ≡ length (beneath tree top)
    by true = length-shares_after _ _ 0 (map losses (beneath tree top)) ∙ length-map (beneath tree top) losses
    by false = length-map (beneath tree top) (part_of (policy_parts tree losses top layer))

-- the losses of the ids of a tree are not more than those of the run
pub ids-few : (tree : Tree) → IsTree tree → (records : List LossRecord) (sidx : ℤ) → sum (map (id_loss records sidx) tree.ids) ≤ run_loss sidx records
ids-few tree is records sidx =
    omega (
      arith,
      sum-map (id_loss records sidx) tree.ids,
      sum_by-swap (λ id (entry : LossRecord). cond (nat_eq entry.id id) (loss_of sidx entry.pairs) 0) tree.ids records,
      sum_by-below (λ (entry : LossRecord). sum_by (λ id. cond (nat_eq entry.id id) (loss_of sidx entry.pairs) 0) tree.ids) (λ (entry : LossRecord). loss_of sidx entry.pairs) records (λ entry. once entry),
    )
  where
    once : (entry : LossRecord) → sum_by (λ id. cond (nat_eq entry.id id) (loss_of sidx entry.pairs) 0) tree.ids ≤ loss_of sidx entry.pairs
    once entry = omega (arith, sum_by-one (loss_of sidx entry.pairs) entry.id tree.ids is.ids_once, cond-le (list_any (nat_eq entry.id) tree.ids) (loss_of sidx entry.pairs))

-- and so are those that a tree takes
pub taken-few : (tree : Tree) → IsTree tree → (records : List LossRecord) (sidx : ℤ) → sum (map (taken_loss tree records sidx) tree.ids) ≤ run_loss sidx records
taken-few tree is records sidx =
    omega (
      arith,
      sum-map (taken_loss tree records sidx) tree.ids,
      sum_by-below (taken_loss tree records sidx) (id_loss records sidx) tree.ids (λ id. cond-le (list_any (nat_eq id) tree.ids) (id_loss records sidx id)),
      sum-map (id_loss records sidx) tree.ids,
      ids-few tree is records sidx,
    )

-- a policy loss is not more than the losses of all ids
pub policy-le : (tree : Tree) → IsTree tree → (losses : ℕ → ℕ) (top layer : ℕ) → policy_loss tree losses top layer ≤ sum (map losses tree.ids)
policy-le tree is losses top layer = omega (arith, policy_loss-le tree is losses top layer, by tree.top_level is.levels)
  where
    by : (level : ℕ) → 0 < level → ground_up tree losses level top ≤ sum (map losses tree.ids)
    by zero above = absurd (omega arith)
    by (suc level) above = omega (arith, ground_up-few tree is losses level top, sum-map losses tree.ids)

-- what a policy loss is shared out to adds to it
pub shares-sum : (tree : Tree) → IsTree tree → (losses : ℕ → ℕ) (rule top layer : ℕ) → sum (shares tree losses rule top layer) ≡ policy_loss tree losses top layer
shares-sum tree is losses rule top layer = by (nat_eq rule 0)
  where
    by : (b : Bool) → sum (cond b (policy_loss tree losses top layer ∷ []) (allocated tree losses rule top layer)) ≡ policy_loss tree losses top layer
    by true = omega (arith, sum_by-cons (λ (n : ℕ). n) (policy_loss tree losses top layer) [])
    by false = allocated-sum tree is losses top layer rule

-- what an id has of a policy loss is not more than the losses of all ids
pub part-le : (tree : Tree) → IsTree tree → (losses : ℕ → ℕ) (rule top layer id : ℕ) → part_of_id tree losses rule top layer id ≤ sum (map losses tree.ids)
part-le tree is losses rule top layer id =
    omega (arith, lookup-few (nat_eq id) (beneath tree top) (allocated tree losses rule top layer), allocated-sum tree is losses top layer rule, policy-le tree is losses top layer)
