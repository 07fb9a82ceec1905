-- Insured losses add to no more than 50 times the losses of the run.
use Rattle.std.proofs.Common.{◌≡◌, ℕ, ◌*◌, ◌≤◌, nat_eq, ℤ, List, map, arith}
use Rattle.std.specs.List.{IsDistinct, sum_by}
use Rattle.std.proofs.lemmas.List.Sums.{sum-map}
use Rattle.kt_rec.specs.Ranges.{AreInRange}
use Rattle.kt_rec.specs.Rising.{rising-distinct}
use Rattle.kt_rec.specs.Rows.{Rows}
use Rattle.kt_keys.specs.Keys.{programme_of}
use Rattle.kt_keys.specs.Units.{top_targets}
use Rattle.kt_stream.specs.declared.entry.LossRecord.{LossRecord}
use Rattle.kt_runs.specs.RunLosses.{run_loss}
use Rattle.kt_fmtree.specs.FewLayers.{tree_of-few}
use Rattle.kt_fmtree.specs.Programme.{tree_of}
use Rattle.kt_fmtree.specs.TopLaws.{policies-few}
use Rattle.kt_fmtree.specs.Tree.{IsTree, policy_loss}
use Rattle.kt_levels.specs.Shares.{layers_of, taken_loss}
use Rattle.kt_levels.specs.SharesLaws.{taken-few}
use Rattle.kt_alloc.specs.Insured.{insured_records, output_loss}
use Rattle.kt_alloc.proofs.RecordLemmas.{made-few}
use Rattle.kt_alloc.proofs.TotalLemmas.{layers-sum}

module _ (rows : Rows) (are : AreInRange rows) (is : IsTree (tree_of rows 0)) (records : List LossRecord) (sidx : ℤ) where
  -- the policy losses of all layers are not more than 50 times the losses of the run
  pub all-policies-few : sum_by (λ key. policy_loss (tree_of rows 0) (taken_loss (tree_of rows 0) records sidx) key.0 key.1) (layers_of (tree_of rows 0)) ≤ 50 * run_loss sidx records
  all-policies-few =
      let tree = tree_of rows 0 in
      let losses = taken_loss tree records sidx in
      omega (
        arith,
        layers-sum tree (λ key. policy_loss tree losses key.0 key.1),
        policies-few tree is losses (rising-distinct (top_targets (programme_of rows 0))) (tree_of-few rows are 0),
        sum-map losses tree.ids,
        taken-few tree is records sidx,
      )

  -- so where the outputs have the policy losses, the insured losses are not more than that
  pub insured-few : (rule samples : ℕ) → IsDistinct nat_eq (map (λ row. row.output_id) rows.fm_xref) → sum_by (λ output. output_loss (tree_of rows 0) (taken_loss (tree_of rows 0) records sidx) rule output.agg_id output.layer_id) rows.fm_xref ≡ sum_by (λ key. policy_loss (tree_of rows 0) (taken_loss (tree_of rows 0) records sidx) key.0 key.1) (layers_of (tree_of rows 0)) → run_loss sidx (insured_records (tree_of rows 0) rule samples rows.fm_xref records) ≤ 50 * run_loss sidx records
  insured-few rule samples once whole = omega (arith, made-few rows.fm_xref once (tree_of rows 0) rule samples records sidx, whole, all-policies-few)
