-- The outputs of a layer have the whole of its policy loss.
use Rattle.std.proofs.Common.{◌≡◌, ℕ, ◌&&◌, Bool, true, false, cond, nat_eq, List, [], ◌∷◌, Option, Some, None, map, refl, sym, ap, ◌∙◌, arith, eqb-true}
use Rattle.std.specs.Cmp.{nat_eq_equiv}
use Rattle.std.specs.List.{AllByRecursion, IsDistinct, list_any, sum_by}
use Rattle.kt_rec.specs.Rows.{Rows}
use Rattle.kt_rec.specs.declared.financial.FmXref.{FmXref}
use Rattle.kt_keys.specs.Keys.{same_pair}
use Rattle.kt_checks.specs.CheckLaws.{same_pair_equiv}
use Rattle.kt_keys.specs.Climbing.{climbed}
use Rattle.kt_checks.specs.OutputChecks.{has_output}
use Rattle.kt_structure.specs.OutputLaws.{HasOutputs}
use Rattle.kt_fmtree.specs.Programme.{tree_of}
use Rattle.kt_fmtree.specs.Sharing.{allocated}
use Rattle.kt_fmtree.specs.SharingLaws.{allocated-sum}
use Rattle.kt_rec.specs.Sums.{distinct_filter, each_member, each_then, sum_by-agree, sum_by-one, sum_by-swap}
use Rattle.kt_fmtree.specs.Tree.{Tree, IsTree, beneath, comes_to, is_unit, policy_loss}
use Rattle.kt_levels.specs.Shares.{part_of_id}
use Rattle.kt_levels.specs.SharesLaws.{length-allocated}
use Rattle.kt_alloc.specs.Insured.{of_layer, output_loss, part_above}
use Rattle.kt_alloc.specs.Layout.{owners}
use Rattle.kt_alloc.specs.Whole.{has_share, outputs_loss}
use Rattle.kt_alloc.proofs.SumLemmas.{each-of, each-passing, sum_by-beside, sum_by-once}

-- the ids beneath a top are ids whose losses come to it
beneath-each : (tree : Tree) (top : ℕ) → AllByRecursion (λ id. (list_any (nat_eq id) tree.ids ≡ true) × (comes_to tree tree.top_level top id ≡ true)) (beneath tree top)
beneath-each tree top = each-passing (λ id. list_any (nat_eq id) tree.ids ≡ true) (comes_to tree tree.top_level top) tree.ids (each_member tree.ids)

-- owners are distinct
owners-once : (tree : Tree) → IsTree tree → (rule top : ℕ) → IsDistinct nat_eq (owners tree rule top)
unfolding IsDistinct
owners-once tree is rule top = by (nat_eq rule 0)
  where
    by : (b : Bool) → IsDistinct nat_eq (cond b (top ∷ []) (beneath tree top))
    by true = (tt, tt)
    by false = distinct_filter (comes_to tree tree.top_level top) tree.ids is.ids_once

-- ---- what owners have of a layer

module _ (tree : Tree) (is : IsTree tree) (losses : ℕ → ℕ) (rule top layer : ℕ) (is_top : list_any (nat_eq top) tree.tops ≡ true) (is_layer : list_any (nat_eq layer) (tree.layers top) ≡ true) where
  -- the top has the layer
  in-layer : (amount : ℕ) → of_layer tree top layer amount ≡ amount
  in-layer amount = ap (λ b. cond (b && list_any (nat_eq layer) (tree.layers top)) amount 0) is_top ∙ ap (λ b. cond b amount 0) is_layer

  -- an id whose losses come to the top has its part of the policy loss
  part-is : (id : ℕ) (up : Option ℕ) → is_unit top up ≡ true → part_above tree losses rule id layer up ≡ part_of_id tree losses rule top layer id
  part-is id None comes = cc
  part-is id (Some unit) comes = ap (λ unit. of_layer tree unit layer (part_of_id tree losses rule unit layer id)) (eqb-true unit top comes) ∙ in-layer (part_of_id tree losses rule top layer id)

  -- what the owners have adds to the policy loss
  owners-sum : sum_by (λ owner. output_loss tree losses rule owner layer) (owners tree rule top) ≡ policy_loss tree losses top layer
  owners-sum = by (nat_eq rule 0)
    where
      by : (b : Bool) → sum_by (λ owner. cond b (of_layer tree owner layer (policy_loss tree losses owner layer)) (part_above tree losses rule owner layer (climbed tree.next tree.top_level 1 owner))) (cond b (top ∷ []) (beneath tree top)) ≡ policy_loss tree losses top layer
      by true = omega (arith, in-layer (policy_loss tree losses top layer))
      by false =
          sum_by-agree (λ owner. part_above tree losses rule owner layer (climbed tree.next tree.top_level 1 owner)) (part_of_id tree losses rule top layer) (beneath tree top)
          (each_then _ _ (λ id here. part-is id (climbed tree.next tree.top_level 1 id) here.1) (beneath tree top) (beneath-each tree top))
          ∙ (sum_by-beside (beneath tree top) (allocated tree losses rule top layer) (sym (length-allocated tree losses rule top layer)) (distinct_filter (comes_to tree tree.top_level top) tree.ids is.ids_once)
          ∙ allocated-sum tree is losses top layer rule)

  -- ---- what outputs have

  module _ (outputs : List FmXref) (once : IsDistinct same_pair (map (λ row. (row.agg_id, row.layer_id)) outputs)) where
    -- an amount of each owner with the layer, over the owners, is that of the output's owner
    one-owner : (loss : ℕ → ℕ) (ids : List ℕ) → IsDistinct nat_eq ids → (agg other : ℕ) → sum_by (λ owner. cond (same_pair (owner, layer) (agg, other)) (loss owner) 0) ids ≡ cond (list_any (nat_eq agg) ids && nat_eq other layer) (loss agg) 0
    one-owner loss ids distinct agg other =
        sum_by-agree (λ owner. cond (same_pair (owner, layer) (agg, other)) (loss owner) 0) (λ owner. cond (nat_eq agg owner) (cond (nat_eq other layer) (loss agg) 0) 0) ids (each-of _ (λ owner. by owner (nat_eq owner agg) refl) ids)
        ∙ (sum_by-one (cond (nat_eq other layer) (loss agg) 0) agg ids distinct
        ∙ both (list_any (nat_eq agg) ids) (nat_eq other layer) (loss agg))
      where
        both : (a b : Bool) (amount : ℕ) → cond a (cond b amount 0) 0 ≡ cond (a && b) amount 0
        both true b amount = refl
        both false b amount = refl

        by : (owner : ℕ) (a : Bool) → nat_eq owner agg ≡ a → cond (a && nat_eq layer other) (loss owner) 0 ≡ cond (nat_eq agg owner) (cond (nat_eq other layer) (loss agg) 0) 0
        by owner true same =
            ap (λ b. cond b (loss owner) 0) (nat_eq_equiv.symm layer other)
            ∙ (ap (λ owner. cond (nat_eq other layer) (loss owner) 0) (eqb-true owner agg same)
            ∙ ap (λ b. cond b (cond (nat_eq other layer) (loss agg) 0) 0) (sym (nat_eq_equiv.symm agg owner ∙ same)))
        by owner false apart = ap (λ b. cond b (cond (nat_eq other layer) (loss agg) 0) 0) (sym (nat_eq_equiv.symm agg owner ∙ apart))

    -- where each owner has an output for the layer, the outputs have what the owners have
    outputs-sum : (loss : ℕ → ℕ) (ids : List ℕ) → IsDistinct nat_eq ids → AllByRecursion (λ owner. has_output outputs (owner, layer) ≡ true) ids → sum_by (λ output. cond (list_any (nat_eq output.agg_id) ids && nat_eq output.layer_id layer) (loss output.agg_id) 0) outputs ≡ sum_by loss ids
    outputs-sum loss ids distinct have =
        sym (sum_by-swap (λ owner output. cond (same_pair (owner, layer) (output.agg_id, output.layer_id)) (loss owner) 0) ids outputs
        ∙ sum_by-agree (λ output. sum_by (λ owner. cond (same_pair (owner, layer) (output.agg_id, output.layer_id)) (loss owner) 0) ids) (λ output. cond (list_any (nat_eq output.agg_id) ids && nat_eq output.layer_id layer) (loss output.agg_id) 0) outputs (each-of _ (λ output. one-owner loss ids distinct output.agg_id output.layer_id) outputs))
        ∙ sum_by-agree (λ owner. sum_by (λ output. cond (same_pair (owner, layer) (output.agg_id, output.layer_id)) (loss owner) 0) outputs) loss ids
        (each_then _ _ (λ owner has. sum_by-once same_pair_equiv (λ (output : FmXref). (output.agg_id, output.layer_id)) (loss owner) (owner, layer) outputs once ∙ ap (λ b. cond b (loss owner) 0) has) ids have)

    -- so the outputs have the policy loss
    outputs-whole : AllByRecursion (λ owner. has_output outputs (owner, layer) ≡ true) (owners tree rule top) → outputs_loss tree losses rule outputs top layer ≡ policy_loss tree losses top layer
    outputs-whole have =
        sum_by-agree (λ output. cond (has_share tree rule top layer output) (output_loss tree losses rule output.agg_id output.layer_id) 0) (λ output. cond (has_share tree rule top layer output) (output_loss tree losses rule output.agg_id layer) 0) outputs
        (each-of _ (λ output. by output (list_any (nat_eq output.agg_id) (owners tree rule top)) (nat_eq output.layer_id layer) refl) outputs)
        ∙ (outputs-sum (λ agg. output_loss tree losses rule agg layer) (owners tree rule top) (owners-once tree is rule top) have
        ∙ owners-sum)
      where
        by : (output : FmXref) (a b : Bool) → nat_eq output.layer_id layer ≡ b → cond (a && b) (output_loss tree losses rule output.agg_id output.layer_id) 0 ≡ cond (a && b) (output_loss tree losses rule output.agg_id layer) 0
        by output true true same = ap (output_loss tree losses rule output.agg_id) (eqb-true output.layer_id layer same)
        by output true false same = refl
        by output false b same = refl

-- ---- the outputs of tables

-- each owner has an output for a layer of its top
owners-have : (rows : Rows) (rule : ℕ) → HasOutputs rows rule → (top layer : ℕ) → list_any (nat_eq top) (tree_of rows 0).tops ≡ true → list_any (nat_eq layer) ((tree_of rows 0).layers top) ≡ true → AllByRecursion (λ owner. has_output rows.fm_xref (owner, layer) ≡ true) (owners (tree_of rows 0) rule top)
owners-have rows rule has top layer is_top is_layer = by (nat_eq rule 0) refl
  where
    up : (id : ℕ) (found : Option ℕ) → is_unit top found ≡ true → found ≡ Some top
    up id None comes = cc
    up id (Some unit) comes = ap Some (eqb-true unit top comes)

    by : (b : Bool) → nat_eq rule 0 ≡ b → AllByRecursion (λ owner. has_output rows.fm_xref (owner, layer) ≡ true) (cond b (top ∷ []) (beneath (tree_of rows 0) top))
    by true zero = (has.of_tops zero top layer is_top is_layer, tt)
    by false other =
        each_then _ _ (λ id here. has.of_ids other id top layer here.0 (up id (climbed (tree_of rows 0).next (tree_of rows 0).top_level 1 id) here.1) is_layer) (beneath (tree_of rows 0) top) (beneath-each (tree_of rows 0) top)

-- what the outputs of tables have of a layer is its policy loss
pub rows-whole : (rows : Rows) (rule : ℕ) → IsTree (tree_of rows 0) → HasOutputs rows rule → IsDistinct same_pair (map (λ row. (row.agg_id, row.layer_id)) rows.fm_xref) → (losses : ℕ → ℕ) (top layer : ℕ) → list_any (nat_eq top) (tree_of rows 0).tops ≡ true → list_any (nat_eq layer) ((tree_of rows 0).layers top) ≡ true → outputs_loss (tree_of rows 0) losses rule rows.fm_xref top layer ≡ policy_loss (tree_of rows 0) losses top layer
rows-whole rows rule is has once losses top layer is_top is_layer = outputs-whole (tree_of rows 0) is losses rule top layer is_top is_layer rows.fm_xref once (owners-have rows rule has top layer is_top is_layer)
