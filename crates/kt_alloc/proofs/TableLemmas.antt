-- The rows of all sidx, and what they give for outputs and layers.
use Rattle.std.proofs.Common.{◌≡◌, ℕ, suc, ◌+◌, ◌-◌, ◌<◌, ℤ, pos, List, [], ◌∷◌, Option, Some, None, length, map, slice_index, slice_index_or, refl, sym, ap, subst, ◌∙◌, arith, All, option_map, unwrap_or}
use Rattle.std.specs.List.{AllByRecursion, cons_option, filter_map, range_with_len, sum, sum_by}
use Rattle.std.proofs.lemmas.List.{get_or-map, length-map}
use Rattle.kt_keys.specs.Keys.{same_pair}
use Rattle.kt_rec.specs.declared.financial.FmXref.{FmXref}
use Rattle.kt_stream.specs.declared.entry.LossRecord.{LossRecord}
use Rattle.kt_runs.specs.RunLosses.{AreWithin, event_of}
use Rattle.kt_runs.specs.Sidx.{pairs_of, sidx_at}
use Rattle.kt_rec.specs.Sums.{sum_by-agree}
use Rattle.kt_fmtree.specs.Tree.{Tree, IsTree, policy_loss}
use Rattle.kt_levels.specs.Layers.{key_of}
use Rattle.kt_runs.specs.RecordLaws.{pairs-none}
use Rattle.kt_levels.specs.Row.{Shared, row_for}
use Rattle.kt_runs.specs.RowLaws.{each-range, filter_map-agree, rows-are, sample-place}
use Rattle.kt_levels.specs.Shares.{layers_of, shares, taken_loss}
use Rattle.kt_runs.specs.Records.{insured_range, record_with, sample_range}
use Rattle.kt_levels.specs.SharesLaws.{policy-le, shares-sum, taken-few}
use Rattle.kt_levels.specs.Table.{HasAmounts, row_at, sampled_sum, table_for}
use Rattle.kt_runs.specs.LaneRows.{pairs_by_row, row_place}
use Rattle.kt_levels.specs.TableLaws.{each-row, row-is, table-length}
use Rattle.kt_alloc.specs.Insured.{in_order, insured_records, layer_sum, layer_sums, output_loss, output_record, sum_with}
use Rattle.kt_alloc.specs.Layout.{keys, outlet_of, place_in}
use Rattle.kt_alloc.specs.Table.{pairs_in, record_in, sum_in, sums_in}
use Rattle.kt_levels.specs.declared.layers.TopLayer.{TopLayer}
use Rattle.kt_alloc.specs.declared.outlets.Outlet.{Outlet}
use Rattle.kt_alloc.proofs.ListLemmas.{filter_map-twice, place-none, place-some, followed}
use Rattle.kt_alloc.proofs.OutputLemmas.{length-row, output-is}
use Rattle.kt_alloc.proofs.SumLemmas.{sum_by-mapped}

-- ---- the table of a run

module _ (tree : Tree) (is : IsTree tree) (rule samples : ℕ) (records : List LossRecord) (within : AreWithin records) (table : List Shared) (table_is : table ≡ table_for tree rule samples records (layers_of tree)) where
  -- the losses at a row
  abbrev losses : ℕ → ℕ → ℕ
  losses row = taken_loss tree records (sidx_at (row_place row))

  -- a row of it
  abbrev full : ℕ → Shared
  full row = row_for tree (losses row) rule (layers_of tree)

  -- ---- outputs

  -- the pairs in a place are those of the losses that stand there
  pairs-are : (place : ℕ) (loss : ℤ → ℕ) → ((row : ℕ) → slice_index (full row).shares place ≡ loss (sidx_at (row_place row))) → pairs_in table place ≡ pairs_of loss (insured_range samples)
  pairs-are place loss same =
      ap (pairs_by_row (λ row. slice_index (row_at table row).shares place)) (table-length tree rule samples records (layers_of tree) table table_is)
      ∙ rows-are samples (λ row. slice_index (row_at table row).shares place) loss (λ row below. ap (λ (one : Shared). slice_index one.shares place) (row-is tree rule samples records (layers_of tree) table table_is row below) ∙ same row)

  -- the loss of an output at a sidx
  abbrev loss_of_output : FmXref → ℤ → ℕ
  loss_of_output output sidx = output_loss tree (taken_loss tree records sidx) rule output.agg_id output.layer_id

  -- the record of an output, by its place
  record-is : (output : FmXref) → followed (outlet_of (keys tree rule) output) (record_in (event_of records) table) ≡ output_record tree rule samples records output
  record-is output = by (place_in (keys tree rule) (output.agg_id, output.layer_id)) refl
    where
      by : (found : Option ℕ) → place_in (keys tree rule) (output.agg_id, output.layer_id) ≡ found → followed (outlet_of (keys tree rule) output) (record_in (event_of records) table) ≡ output_record tree rule samples records output
      by None none =
          ap (λ found. followed (option_map (λ place. record { id = output.output_id; place = place }) found) (record_in (event_of records) table)) none
          ∙ ap (record_with (event_of records) output.output_id) (sym (pairs-none (loss_of_output output) nothing (insured_range samples)))
        where
          nothing : (sidx : ℤ) → loss_of_output output sidx ≡ 0
          nothing sidx =
              sym (output-is tree (taken_loss tree records sidx) rule output.agg_id output.layer_id)
              ∙ ap (λ found. unwrap_or found 0) (place-none (same_pair (output.agg_id, output.layer_id)) 0 (keys tree rule) (row_for tree (taken_loss tree records sidx) rule (layers_of tree)).shares none)
      by (Some place) some =
          ap (λ found. followed (option_map (λ place. record { id = output.output_id; place = place }) found) (record_in (event_of records) table)) some
          ∙ ap (record_with (event_of records) output.output_id) (pairs-are place (loss_of_output output) stands)
        where
          stands : (row : ℕ) → slice_index (full row).shares place ≡ loss_of_output output (sidx_at (row_place row))
          stands row =
              let found = place-some (same_pair (output.agg_id, output.layer_id)) 0 (keys tree rule) (full row).shares place (length-row tree (losses row) rule (layers_of tree)) some in
              let same : place ≡ place - 0 = omega arith in
              ap (slice_index (full row).shares) same ∙ (sym (ap (λ (found : Option ℕ). unwrap_or found 0) found.found_is) ∙ output-is tree (losses row) rule output.agg_id output.layer_id)

  -- the records of outputs that have places are those of all
  pub records-are : (outputs : List FmXref) (outlets : List Outlet) → outlets ≡ filter_map (outlet_of (keys tree rule)) (in_order outputs) → filter_map (record_in (event_of records) table) outlets ≡ insured_records tree rule samples outputs records
  records-are outputs outlets are =
      ap (filter_map (record_in (event_of records) table)) are
      ∙ (filter_map-twice (record_in (event_of records) table) (outlet_of (keys tree rule)) (in_order outputs)
      ∙ filter_map-agree (λ output. followed (outlet_of (keys tree rule) output) (record_in (event_of records) table)) (output_record tree rule samples records) (in_order outputs) (all (in_order outputs)))
    where
      all : (outputs : List FmXref) → AllByRecursion (λ output. followed (outlet_of (keys tree rule) output) (record_in (event_of records) table) ≡ output_record tree rule samples records output) outputs
      all [] = tt
      all (output ∷ outputs) = (record-is output, all outputs)

  -- the place of an output is in each row
  pub places-within : (outputs : List FmXref) (outlets : List Outlet) → outlets ≡ filter_map (outlet_of (keys tree rule)) (in_order outputs) → AllByRecursion (λ outlet. All (λ row. outlet.place < length row.shares) table) outlets
  places-within outputs outlets are = subst (AllByRecursion (λ outlet. All (λ row. outlet.place < length row.shares) table)) (sym are) (over (in_order outputs))
    where
      one : (output : FmXref) (found : Option ℕ) → place_in (keys tree rule) (output.agg_id, output.layer_id) ≡ found → (later : List Outlet) → AllByRecursion (λ outlet. All (λ row. outlet.place < length row.shares) table) later → AllByRecursion (λ outlet. All (λ row. outlet.place < length row.shares) table) (cons_option (option_map (λ place. record { id = output.output_id; place = place }) found) later)
      one output None none later rest = rest
      one output (Some place) some later rest = (
        each-row tree rule samples records (layers_of tree) table table_is (λ row. place < length row.shares) (λ row.
            let same = length-row tree (losses row) rule (layers_of tree) in
            let found = place-some (same_pair (output.agg_id, output.layer_id)) 0 (keys tree rule) (full row).shares place same some in
            omega (arith, found.high, same)),
        rest,
      )

      over : (outputs : List FmXref) → AllByRecursion (λ outlet. All (λ row. outlet.place < length row.shares) table) (filter_map (outlet_of (keys tree rule)) outputs)
      over [] = tt
      over (output ∷ outputs) = one output (place_in (keys tree rule) (output.agg_id, output.layer_id)) refl _ (over outputs)

  -- ---- layers

  module _ (layers : List TopLayer) (layers_are : map key_of layers ≡ layers_of tree) where
    no_key : ℕ × ℕ
    no_key = (0, 0)

    key-at : (place : ℕ) (d : TopLayer) → place < length layers → slice_index_or (layers_of tree) place no_key ≡ key_of (slice_index_or layers place d)
    key-at place d below = ap (λ all. slice_index_or all place no_key) (sym layers_are) ∙ get_or-map key_of layers place d no_key below

    as-many : length (layers_of tree) ≡ length layers
    as-many = ap length (sym layers_are) ∙ length-map layers key_of

    -- a row has amounts for each layer
    pub amounts-within : (place : ℕ) → place < length layers → All (HasAmounts place) table
    amounts-within place below = each-row tree rule samples records (layers_of tree) table table_is (HasAmounts place) (λ row.
        let inside : place < length (layers_of tree) = omega (arith, as-many) in
        let key = slice_index_or (layers_of tree) place no_key in
        let policy = get_or-map (λ (key : ℕ × ℕ). policy_loss tree (losses row) key.0 key.1) (layers_of tree) place no_key 0 inside in
        let total = get_or-map (λ (key : ℕ × ℕ). sum (shares tree (losses row) rule key.0 key.1)) (layers_of tree) place no_key 0 inside in
        let few = policy-le tree is (losses row) key.0 key.1 in
        let taken = taken-few tree is records (sidx_at (row_place row)) in
        record {
          policy = omega (arith, inside, length-map (layers_of tree) (λ (key : ℕ × ℕ). policy_loss tree (losses row) key.0 key.1));
          total = omega (arith, inside, length-map (layers_of tree) (λ (key : ℕ × ℕ). sum (shares tree (losses row) rule key.0 key.1)));
          policy_few = omega (arith, policy, few, taken, within (sidx_at (row_place row)));
          total_few = omega (arith, total, shares-sum tree is (losses row) rule key.0 key.1, few, taken, within (sidx_at (row_place row)));
        })

    -- amounts of the samples, added
    sampled-is : (amount : Shared → ℕ) (f : ℤ → ℕ) → ((row : ℕ) → amount (full row) ≡ f (sidx_at (row_place row))) → sampled_sum amount table ≡ sum_by f (sample_range samples)
    sampled-is amount f same =
        let long = table-length tree rule samples records (layers_of tree) table table_is in
        let fewer : length table - 1 ≡ samples = omega arith in
        ap (λ n. sum_by (λ row. amount (row_at table row)) (range_with_len 1 n)) fewer
        ∙ (sum_by-agree (λ row. amount (row_at table row)) (λ row. f (pos row)) (range_with_len 1 samples)
        (each-range (λ row. amount (row_at table row) ≡ f (pos row)) 1 samples (λ row low high. ap amount (row-is tree rule samples records (layers_of tree) table table_is row (omega arith)) ∙ (same row ∙ ap f (sample-place row low))))
        ∙ sym (sum_by-mapped f pos (range_with_len 1 samples)))

    -- the sum of the layer in a place
    sum-is : (place : ℕ) (one : TopLayer) → place < length (layers_of tree) → slice_index_or (layers_of tree) place no_key ≡ key_of one → sum_in (event_of records) table one place ≡ layer_sum tree rule samples records (key_of one)
    sum-is place one inside key_is =
        ap (λ n. sum_with (event_of records) one.top one.layer n (sampled_sum (λ row. slice_index row.totals place) table)) (sampled-is (λ row. slice_index row.policies place) (λ sidx. policy_loss tree (taken_loss tree records sidx) one.top one.layer) policy)
        ∙ ap (sum_with (event_of records) one.top one.layer (sum_by (λ sidx. policy_loss tree (taken_loss tree records sidx) one.top one.layer) (sample_range samples))) (sampled-is (λ row. slice_index row.totals place) (λ sidx. sum (shares tree (taken_loss tree records sidx) rule one.top one.layer)) total)
      where
        policy : (row : ℕ) → slice_index (full row).policies place ≡ policy_loss tree (losses row) one.top one.layer
        policy row = get_or-map (λ (key : ℕ × ℕ). policy_loss tree (losses row) key.0 key.1) (layers_of tree) place no_key 0 inside ∙ ap (λ (key : ℕ × ℕ). policy_loss tree (losses row) key.0 key.1) key_is

        total : (row : ℕ) → slice_index (full row).totals place ≡ sum (shares tree (losses row) rule one.top one.layer)
        total row = get_or-map (λ (key : ℕ × ℕ). sum (shares tree (losses row) rule key.0 key.1)) (layers_of tree) place no_key 0 inside ∙ ap (λ (key : ℕ × ℕ). sum (shares tree (losses row) rule key.0 key.1)) key_is

    -- the sums of layers from a place on
    sums-from : (place : ℕ) (rest : List TopLayer) → ((k : ℕ) (d : TopLayer) → k < length rest → (place + k < length (layers_of tree)) × (slice_index_or (layers_of tree) (place + k) no_key ≡ key_of (slice_index_or rest k d))) → sums_in (event_of records) table place rest ≡ filter_map (layer_sum tree rule samples records) (map key_of rest)
    sums-from place [] same = refl
    sums-from place (one ∷ rest) same =
        let e : place + 0 ≡ place = omega arith in
        let first = subst (λ n. (n < length (layers_of tree)) × (slice_index_or (layers_of tree) n no_key ≡ key_of one)) e (same 0 one (omega arith)) in
        ap (λ found. cons_option found (sums_in (event_of records) table (place + 1) rest)) (sum-is place one first.0 first.1)
        ∙ ap (cons_option (layer_sum tree rule samples records (key_of one)))
        (sums-from (place + 1) rest (λ k d below. let e : place + suc k ≡ place + 1 + k = omega arith in subst (λ n. (n < length (layers_of tree)) × (slice_index_or (layers_of tree) n no_key ≡ key_of (slice_index_or rest k d))) e (same (suc k) d (omega arith))))

    -- those of all layers
    pub sums-are : sums_in (event_of records) table 0 layers ≡ layer_sums tree rule samples records
    sums-are =
        sums-from 0 layers (λ k d below. let e : 0 + k ≡ k = omega arith in (omega (arith, as-many), ap (λ n. slice_index_or (layers_of tree) n no_key) e ∙ key-at k d below))
        ∙ ap (filter_map (layer_sum tree rule samples records)) layers_are
