-- What the outputs have of the policy loss of a layer: laws say that it is the whole.
-- The rule: docs/FINANCIAL_MODULE.md, "Insured losses".
use Rattle.std.specs.Prelude.{◌≡◌, ℕ, ◌&&◌, All, Bool, true, cond, nat_eq, ℤ, List}
use Rattle.std.specs.List.{list_any, sum_by}
use Rattle.kt_rec.specs.declared.financial.FmXref.{FmXref}
use Rattle.kt_rec.specs.Rows.{Rows}
use Rattle.kt_stream.specs.declared.entry.LossRecord.{LossRecord}
use Rattle.kt_fmtree.specs.Programme.{tree_of}
use Rattle.kt_fmtree.specs.Tree.{Tree, policy_loss}
use Rattle.kt_levels.specs.Shares.{taken_loss}
use Rattle.kt_runs.specs.Records.{id_loss, insured_range}
use Rattle.kt_alloc.specs.Insured.{insured_records, layer_sums, output_loss}
use Rattle.kt_alloc.specs.Layout.{owners}

-- whether an output has a share of the policy loss of a layer of a top
abbrev pub has_share : Tree → ℕ → ℕ → ℕ → FmXref → Bool
has_share tree rule top layer output = list_any (nat_eq output.agg_id) (owners tree rule top) && nat_eq output.layer_id layer

-- what the outputs have of the policy loss of a layer of a top, added
abbrev pub outputs_loss : Tree → (ℕ → ℕ) → ℕ → List FmXref → ℕ → ℕ → ℕ
outputs_loss tree losses rule outputs top layer = sum_by (λ output. cond (has_share tree rule top layer output) (output_loss tree losses rule output.agg_id output.layer_id) 0) outputs

-- what the records of these outputs have at a sidx, added
abbrev pub records_loss : Tree → ℕ → List FmXref → List LossRecord → ℕ → ℕ → ℤ → ℕ
records_loss tree rule outputs made top layer sidx = sum_by (λ output. cond (has_share tree rule top layer output) (id_loss made sidx output.output_id) 0) outputs

-- what a layer of a top of the base's programme pays of the losses of a run at a sidx
abbrev pub layer_loss : Rows → List LossRecord → ℤ → ℕ → ℕ → ℕ
layer_loss rows losses sidx top layer = policy_loss (tree_of rows 0) (taken_loss (tree_of rows 0) losses sidx) top layer

-- a layer of a top of the base's programme
pub record IsLayer (rows : Rows) (top layer : ℕ) : Type 0 where
  pub top_is : list_any (nat_eq top) (tree_of rows 0).tops ≡ true
  pub layer_is : list_any (nat_eq layer) ((tree_of rows 0).layers top) ≡ true

-- The losses of a run are shared out whole by an allocation rule. In the sums of each layer over the samples what is allocated is the policy
-- loss; and at each sidx the outputs of a layer have its policy loss, and so have their records, at the mean and at each sample.
pub record IsSharedOut (rows : Rows) (rule samples : ℕ) (losses : List LossRecord) : Type 0 where
  pub sums : All (λ entry. entry.allocated ≡ entry.policy) (layer_sums (tree_of rows 0) rule samples losses)
  pub outputs : (sidx : ℤ) (top layer : ℕ) → IsLayer rows top layer → outputs_loss (tree_of rows 0) (taken_loss (tree_of rows 0) losses sidx) rule rows.fm_xref top layer ≡ layer_loss rows losses sidx top layer
  pub records : (top layer : ℕ) → IsLayer rows top layer → All (λ sidx. records_loss (tree_of rows 0) rule rows.fm_xref (insured_records (tree_of rows 0) rule samples rows.fm_xref losses) top layer sidx ≡ layer_loss rows losses sidx top layer) (insured_range samples)
