-- Insured losses are records of a stream, and each policy loss is shared out whole.
use Rattle.std.proofs.Common.{◌≡◌, ℕ, zero, suc, ◌≤◌, ◌&&◌, Bool, true, false, cond, nat_eq, ℤ, List, [], ◌∷◌, Option, Some, None, map, refl, sym, ap, subst, ◌∙◌, arith, All}
use Rattle.std.specs.List.{AllByRecursion, cons_option, filter_map, list_any, sum, sum_by}
use Rattle.std.specs.Map.{lookup}
use Rattle.std.proofs.lemmas.List.Elements.{All-from_recursion, recursion_from_All}
use Rattle.kt_rec.specs.Ranges.{IsFmXref}
use Rattle.kt_rec.specs.declared.financial.FmXref.{FmXref}
use Rattle.kt_keys.specs.Climbing.{climbed}
use Rattle.kt_stream.specs.declared.entry.LossRecord.{LossRecord}
use Rattle.kt_stream.specs.Losses.{IsLoss}
use Rattle.kt_stream.specs.Pairs.{IsId}
use Rattle.kt_runs.specs.RunLosses.{AreWithin, event_of, run_loss}
use Rattle.kt_rec.specs.Rising.{rising}
use Rattle.kt_fmtree.specs.Sharing.{allocated}
use Rattle.kt_fmtree.specs.SharingLaws.{allocated-sum}
use Rattle.kt_rec.specs.Sums.{sum_by-agree}
use Rattle.kt_fmtree.specs.Tree.{Tree, IsTree, beneath, policy_loss}
use Rattle.kt_fmtree.specs.TreeLaws.{each}
use Rattle.kt_levels.specs.Shares.{layers_of, part_of_id, shares, taken_loss}
use Rattle.kt_runs.specs.Records.{insured_range, record_with, sample_range}
use Rattle.kt_levels.specs.LookupLaws.{lookup-few}
use Rattle.kt_runs.specs.RecordLaws.{pairs-none, record-good}
use Rattle.kt_levels.specs.SharesLaws.{policy-le, shares-sum, taken-few}
use Rattle.kt_rec.specs.ListLaws.{cond-le}
use Rattle.kt_alloc.specs.Insured.{in_order, insured_records, layer_sum, layer_sums, of_layer, output_loss, output_record, part_above, sum_with}
use Rattle.kt_block.specs.declared.layer_sum.LayerSum.{LayerSum}

-- ---- how much an output can have

-- the loss of an output is not more than those of all ids
pub output-le : (tree : Tree) → IsTree tree → (losses : ℕ → ℕ) (rule agg layer : ℕ) → output_loss tree losses rule agg layer ≤ sum (map losses tree.ids)
output-le tree is losses rule agg layer = by (nat_eq rule 0)
  where
    in_layer : (top amount : ℕ) → of_layer tree top layer amount ≤ amount
    in_layer top amount = cond-le (list_any (nat_eq top) tree.tops && list_any (nat_eq layer) (tree.layers top)) amount

    above : (up : Option ℕ) → part_above tree losses rule agg layer up ≤ sum (map losses tree.ids)
    above None = omega arith
    above (Some top) =
        omega (
          arith,
          in_layer top (part_of_id tree losses rule top layer agg),
          lookup-few (nat_eq agg) (beneath tree top) (allocated tree losses rule top layer),
          allocated-sum tree is losses top layer rule,
          policy-le tree is losses top layer,
        )

    by : (b : Bool) → cond b (of_layer tree agg layer (policy_loss tree losses agg layer)) (part_above tree losses rule agg layer (climbed tree.next tree.top_level 1 agg)) ≤ sum (map losses tree.ids)
    by true = omega (arith, in_layer agg (policy_loss tree losses agg layer), policy-le tree is losses agg layer)
    by false = above (climbed tree.next tree.top_level 1 agg)

-- so an output has no more than that
pub output-few : (tree : Tree) → IsTree tree → (records : List LossRecord) (sidx : ℤ) (rule agg layer : ℕ) → output_loss tree (taken_loss tree records sidx) rule agg layer ≤ run_loss sidx records
output-few tree is records sidx rule agg layer = omega (arith, output-le tree is (taken_loss tree records sidx) rule agg layer, taken-few tree is records sidx)

-- ---- the records

-- what holds of each value holds of one that is found
found-each : {V : Type 0} (P : V → Type 0) (test : ℕ → Bool) (pairs : List (ℕ × V)) → AllByRecursion (λ pair. P pair.1) pairs → (later : List V) → AllByRecursion P later → AllByRecursion P (cons_option (lookup test pairs) later)
found-each P test [] all later rest = rest
found-each P test (pair ∷ pairs) all later rest = by (test pair.0) (found-each P test pairs all.1 later rest)
  where
    by : (b : Bool) → AllByRecursion P (cons_option (lookup test pairs) later) → AllByRecursion P (cons_option (cond b (Some pair.1) (lookup test pairs)) later)
    by true more = (all.0, rest)
    by false more = more

-- and of each of outputs in order
pub order-each : (P : FmXref → Type 0) (outputs : List FmXref) → AllByRecursion P outputs → AllByRecursion P (in_order outputs)
order-each P outputs all = from (rising (map (λ row. row.output_id) outputs))
  where
    paired : (outputs : List FmXref) → AllByRecursion P outputs → AllByRecursion (λ (pair : ℕ × FmXref). P pair.1) (map (λ row. (row.output_id, row)) outputs)
    paired [] all = tt
    paired (output ∷ outputs) all = (all.0, paired outputs all.1)

    from : (ids : List ℕ) → AllByRecursion P (filter_map (λ id. lookup (nat_eq id) (map (λ row. (row.output_id, row)) outputs)) ids)
    from [] = tt
    from (id ∷ ids) = found-each P (nat_eq id) (map (λ row. (row.output_id, row)) outputs) (paired outputs all) _ (from ids)

-- what an output loses at a sidx
abbrev pub loss_for : Tree → ℕ → List LossRecord → FmXref → ℤ → ℕ
loss_for tree rule records output sidx = output_loss tree (taken_loss tree records sidx) rule output.agg_id output.layer_id

-- insured losses are records of a stream
pub insured-good : (tree : Tree) → IsTree tree → (rule samples : ℕ) (outputs : List FmXref) (records : List LossRecord) → All IsFmXref outputs → All (IsLoss samples) records → AreWithin records → All (IsLoss samples) (insured_records tree rule samples outputs records)
insured-good tree is rule samples outputs records ids are within =
    All-from_recursion (IsLoss samples) (insured_records tree rule samples outputs records) (over records refl (recursion_from_All (IsLoss samples) records are))
  where
    few : (output : FmXref) (sidx : ℤ) → loss_for tree rule records output sidx ≤ 10000000000000000
    few output sidx = omega (arith, output-few tree is records sidx rule output.agg_id output.layer_id, within sidx)

    some : IsId (event_of records) → (outs : List FmXref) → AllByRecursion IsFmXref outs → AllByRecursion (IsLoss samples) (filter_map (output_record tree rule samples records) outs)
    some event [] all = tt
    some event (output ∷ outs) all = record-good samples (loss_for tree rule records output) (few output) (event_of records) output.output_id event (all.0.output_id.least, all.0.output_id.most) (filter_map (output_record tree rule samples records) outs) (some event outs all.1)

    none : ((sidx : ℤ) → run_loss sidx records ≡ 0) → (outs : List FmXref) → filter_map (output_record tree rule samples records) outs ≡ []
    none nothing [] = refl
    none nothing (output ∷ outs) =
        ap (λ pairs. cons_option (record_with (event_of records) output.output_id pairs) (filter_map (output_record tree rule samples records) outs))
        (pairs-none (loss_for tree rule records output) (λ sidx. omega (arith, output-few tree is records sidx rule output.agg_id output.layer_id, nothing sidx)) (insured_range samples))
        ∙ none nothing outs

    over : (all : List LossRecord) → records ≡ all → AllByRecursion (IsLoss samples) records → AllByRecursion (IsLoss samples) (insured_records tree rule samples outputs records)
    over [] same each = subst (AllByRecursion (IsLoss samples)) (sym (none (λ sidx. ap (run_loss sidx) same) (in_order outputs))) tt
    over (entry ∷ later) same each =
        let first = subst (AllByRecursion (IsLoss samples)) same each in
        some (subst IsId (ap event_of (sym same)) first.0.event) (in_order outputs) (order-each IsFmXref outputs (recursion_from_All IsFmXref outputs ids))

-- ---- the sums

-- in the sum of a layer what was shared out is the policy loss
sum-whole : (event top layer policy allocated : ℕ) → allocated ≡ policy → (later : List LayerSum) → AllByRecursion (λ (entry : LayerSum). entry.allocated ≡ entry.policy) later → AllByRecursion (λ (entry : LayerSum). entry.allocated ≡ entry.policy) (cons_option (sum_with event top layer policy allocated) later)
sum-whole event top layer zero allocated same later all = all
sum-whole event top layer (suc less) allocated same later all = (same, all)

pub sums-whole : (tree : Tree) → IsTree tree → (rule samples : ℕ) (records : List LossRecord) → All (λ entry. entry.allocated ≡ entry.policy) (layer_sums tree rule samples records)
sums-whole tree is rule samples records = All-from_recursion (λ (entry : LayerSum). entry.allocated ≡ entry.policy) (layer_sums tree rule samples records) (over (layers_of tree))
  where
    same : (range : List ℤ) (top layer : ℕ) → sum_by (λ sidx. sum (shares tree (taken_loss tree records sidx) rule top layer)) range ≡ sum_by (λ sidx. policy_loss tree (taken_loss tree records sidx) top layer) range
    same range top layer = sum_by-agree (λ sidx. sum (shares tree (taken_loss tree records sidx) rule top layer)) (λ sidx. policy_loss tree (taken_loss tree records sidx) top layer) range (all range)
      where
        all : (range : List ℤ) → AllByRecursion (λ sidx. sum (shares tree (taken_loss tree records sidx) rule top layer) ≡ policy_loss tree (taken_loss tree records sidx) top layer) range
        all [] = tt
        all (sidx ∷ range) = (shares-sum tree is (taken_loss tree records sidx) rule top layer, all range)

    over : (layers : List (ℕ × ℕ)) → AllByRecursion (λ (entry : LayerSum). entry.allocated ≡ entry.policy) (filter_map (layer_sum tree rule samples records) layers)
    over [] = tt
    over (key ∷ layers) =
        sum-whole (event_of records) key.0 key.1 (sum_by (λ sidx. policy_loss tree (taken_loss tree records sidx) key.0 key.1) (sample_range samples)) (sum_by (λ sidx. sum (shares tree (taken_loss tree records sidx) rule key.0 key.1)) (sample_range samples)) (same (sample_range samples) key.0 key.1)
        (filter_map (layer_sum tree rule samples records) layers) (over layers)
