-- The insured losses of a run, from its table.
use Rattle.std.proofs.Common.{◌≡◌, ℕ, ◌<◌, List, length, map, ap, ◌∙◌, All}
use Rattle.std.specs.List.{AllByRecursion, filter_map}
use Rattle.kt_stream.specs.declared.entry.LossRecord.{LossRecord}
use Rattle.kt_runs.specs.RunLosses.{AreWithin, event_of}
use Rattle.kt_fmtree.specs.Tree.{Tree}
use Rattle.kt_rec.specs.declared.financial.FmXref.{FmXref}
use Rattle.kt_fmtree.specs.Parts.{Parts, IsProgramme}
use Rattle.kt_levels.specs.Layers.{key_of}
use Rattle.kt_levels.specs.Row.{Shared}
use Rattle.kt_levels.specs.Shares.{layers_of}
use Rattle.kt_levels.specs.Table.{HasAmounts, table_for}
use Rattle.kt_alloc.specs.Insured.{insured_records, layer_sums}
use Rattle.kt_alloc.specs.Layout.{IsLayout, Laid}
use Rattle.kt_alloc.specs.Table.{record_in, sums_in}
use Rattle.kt_levels.specs.declared.layers.TopLayer.{TopLayer}
use Rattle.kt_alloc.specs.declared.outlets.Outlet.{Outlet}
use Rattle.kt_block.specs.declared.layer_sum.LayerSum.{LayerSum}
use Rattle.kt_alloc.proofs.TableLemmas.{amounts-within, places-within, records-are, sums-are}

module _ (tree : Tree) (parts : Parts) (is : IsProgramme tree parts) (outputs : List FmXref) (layout : Laid) (laid : IsLayout tree outputs parts layout) (samples : ℕ) (records : List LossRecord) (within : AreWithin records) (rule : ℕ) (rule_is : rule ≡ layout.rule) (layers : List TopLayer) (layers_are : layers ≡ layout.layers) (table : List Shared) (table_is : table ≡ table_for tree rule samples records (map key_of layers)) where
  keys-are : map key_of layers ≡ layers_of tree
  keys-are = ap (map key_of) layers_are ∙ laid.layers_are

  full : table ≡ table_for tree layout.rule samples records (layers_of tree)
  full = table_is ∙ (ap (λ rule. table_for tree rule samples records (map key_of layers)) rule_is ∙ ap (table_for tree layout.rule samples records) keys-are)

  -- each output has its place in each row
  pub run-places : (outlets : List Outlet) → outlets ≡ layout.outlets → AllByRecursion (λ outlet. All (λ row. outlet.place < length row.shares) table) outlets
  run-places outlets are = places-within tree is.is layout.rule samples records within table full outputs outlets (are ∙ laid.outlets_are)

  -- each layer has its amounts in each row
  pub run-amounts : (place : ℕ) → place < length layers → All (HasAmounts place) table
  run-amounts = amounts-within tree is.is layout.rule samples records within table full layers keys-are

  -- the records
  pub run-records : (event : ℕ) (outlets : List Outlet) (made : List LossRecord) → event ≡ event_of records → outlets ≡ layout.outlets → made ≡ filter_map (record_in event table) outlets → made ≡ insured_records tree layout.rule samples outputs records
  run-records event outlets made event_is are made_is =
      made_is
      ∙ (ap (λ event. filter_map (record_in event table) outlets) event_is
      ∙ records-are tree is.is layout.rule samples records within table full outputs outlets (are ∙ laid.outlets_are))

  -- the sums
  pub run-sums : (event : ℕ) (made : List LayerSum) → event ≡ event_of records → made ≡ sums_in event table 0 layers → made ≡ layer_sums tree layout.rule samples records
  run-sums event made event_is made_is =
      made_is
      ∙ (ap (λ event. sums_in event table 0 layers) event_is
      ∙ sums-are tree is.is layout.rule samples records within table full layers keys-are)
