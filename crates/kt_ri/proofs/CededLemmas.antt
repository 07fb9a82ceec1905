-- What the places of ids have of a row of shares is what the ids cede.
use Rattle.std.proofs.Common.{◌≡◌, ℕ, ◌+◌, ◌<◌, ◌≤◌, ◌^◌, Bool, true, false, cond, nat_eq, List, [], ◌∷◌, ◌++◌, ◌⊎◌, inl, inr, length, map, slice_index, slice_index_or, refl, sym, ap, subst, ◌∙◌, arith}
use Rattle.std.specs.Prelude.{All, unwrap_or, Some}
use Rattle.std.specs.Cmp.{nat_eq_equiv}
use Rattle.std.specs.List.{AllByRecursion, IsDistinct, flat_map, filter, list_any, sum, sum_by, zip}
use Rattle.std.specs.Map.{lookup}
use Rattle.std.proofs.lemmas.Bool.{eqb-true}
use Rattle.std.proofs.lemmas.List.{length-append, length-map}
use Rattle.std.proofs.lemmas.List.Elements.{recursion_from_All}
use Rattle.std.proofs.lemmas.List.Sums.{sum_by-append, sum_by-cons}
use Rattle.kt_stream.specs.declared.entry.LossRecord.{LossRecord}
use Rattle.kt_runs.specs.RunLosses.{AreWithin}
use Rattle.kt_runs.specs.Sidx.{sidx_at}
use Rattle.kt_rec.specs.Rising.{IsRising}
use Rattle.kt_fmtree.specs.Sharing.{allocated}
use Rattle.kt_rec.specs.Sums.{distinct_filter, each_flat_map, each_member}
use Rattle.kt_fmtree.specs.Tree.{Tree, IsTree, beneath, comes_to, policy_loss}
use Rattle.kt_fmtree.specs.Parts.{Parts, IsProgramme}
use Rattle.kt_fmtree.specs.PartsLaws.{beneath-are}
use Rattle.kt_levels.specs.Layers.{IsTopLayer, key_of}
use Rattle.kt_levels.specs.LookupLaws.{same-place, zip-append}
use Rattle.kt_lanes.specs.Lanes.{AreWide, column}
use Rattle.kt_levels.specs.Row.{Shared, no_shares, row_for}
use Rattle.kt_levels.specs.Shares.{layers_of, part_of_id, shares, taken_loss}
use Rattle.kt_levels.specs.SharesLaws.{length-allocated, taken-few}
use Rattle.kt_levels.specs.Table.{row_at, table_for}
use Rattle.kt_runs.specs.LaneRows.{row_place}
use Rattle.kt_levels.specs.TableLaws.{each-row, row-is, table-length}
use Rattle.kt_levels.specs.declared.layers.TopLayer.{TopLayer}
use Rattle.kt_ceded.specs.CededShares.{AreCededShares, HasShares, share_at}
use Rattle.kt_ceded.specs.CededLaws.{ceded-all}
use Rattle.kt_ri.specs.Ceded.{AreRows}
use Rattle.kt_ri.specs.Ceding.{AreLayers, ArePlaces, HasFewLayers, owners_of}
use Rattle.kt_ri.specs.Reinsurance.{ceded_at, ceded_loss}
use Rattle.kt_ri.proofs.FewLemmas.{ceded-le}

-- ---- the ids that have shares

module _ (tree : Tree) (parts : Parts) (is : IsProgramme tree parts) where
  -- the ids beneath the top of a layer
  beneath-at : (one : TopLayer) → IsTopLayer parts one → slice_index_or parts.beneath one.node [] ≡ beneath tree one.top
  beneath-at one within = beneath-are tree parts is one.node within.node ∙ ap (beneath tree) (ap (λ tops. slice_index tops one.node) (sym is.tops_are) ∙ within.top_is)

  -- layer by layer
  pub owners-are : (layers : List TopLayer) → AreLayers parts layers → flat_map (λ (one : TopLayer). slice_index_or parts.beneath one.node []) layers ≡ owners_of tree
  owners-are layers are = from layers are.each ∙ ap (flat_map (λ (key : ℕ × ℕ). beneath tree key.0)) (are.keys_are tree is)
    where
      from : (layers : List TopLayer) → AllByRecursion (IsTopLayer parts) layers → flat_map (λ (one : TopLayer). slice_index_or parts.beneath one.node []) layers ≡ flat_map (λ (key : ℕ × ℕ). beneath tree key.0) (map key_of layers)
      from [] all = refl
      from (one ∷ layers) all = ap (λ ids. ids ++ flat_map (λ (one : TopLayer). slice_index_or parts.beneath one.node []) layers) (beneath-at one all.0) ∙ ap (λ rest. beneath tree one.top ++ rest) (from layers all.1)

  -- they are ids of the programme
  pub owners-members : (layers : List TopLayer) → AllByRecursion (IsTopLayer parts) layers → AllByRecursion (λ id. list_any (nat_eq id) parts.ids ≡ true) (flat_map (λ (one : TopLayer). slice_index_or parts.beneath one.node []) layers)
  owners-members layers all =
      each_flat_map (IsTopLayer parts) (λ id. list_any (nat_eq id) parts.ids ≡ true) (λ one. slice_index_or parts.beneath one.node [])
      (λ one within. subst (AllByRecursion (λ id. list_any (nat_eq id) parts.ids ≡ true)) (sym (beneath-at one within))
      (passed tree.ids (subst (λ ids. AllByRecursion (λ id. list_any (nat_eq id) parts.ids ≡ true) ids) is.ids_are (each_member parts.ids)) one.top))
      layers all
    where
      passed : (ids : List ℕ) → AllByRecursion (λ id. list_any (nat_eq id) parts.ids ≡ true) ids → (top : ℕ) → AllByRecursion (λ id. list_any (nat_eq id) parts.ids ≡ true) (filter (comes_to tree tree.top_level top) ids)
      passed [] all top = tt
      passed (id ∷ ids) all top = by (comes_to tree tree.top_level top id) (passed ids all.1 top)
        where
          by : (b : Bool) → AllByRecursion (λ id. list_any (nat_eq id) parts.ids ≡ true) (filter (comes_to tree tree.top_level top) ids) → AllByRecursion (λ id. list_any (nat_eq id) parts.ids ≡ true) (cond b (id ∷ filter (comes_to tree tree.top_level top) ids) (filter (comes_to tree tree.top_level top) ids))
          by true rest = (all.0, rest)
          by false rest = rest

-- ---- shares by place and by id

-- what a place has is what its id has
share-by_id : (ids : List ℕ) → IsRising ids → (places amounts : List ℕ) → AllByRecursion (λ place. place < length ids) places → (place : ℕ) → place < length ids → share_at places amounts place ≡ share_at (map (slice_index ids) places) amounts (slice_index ids place)
share-by_id ids rises [] amounts within place below = refl
share-by_id ids rises (one ∷ places) [] within place below = refl
share-by_id ids rises (one ∷ places) (amount ∷ amounts) within place below =
    omega (
      arith,
      sum_by-cons (λ (pair : ℕ × ℕ). cond (nat_eq pair.0 place) pair.1 0) (one, amount) (zip places amounts),
      sum_by-cons (λ (pair : ℕ × ℕ). cond (nat_eq pair.0 (slice_index ids place)) pair.1 0) (slice_index ids one, amount) (zip (map (slice_index ids) places) amounts),
      ap (λ b. cond b amount 0) (same-place ids rises one place within.0 below),
      share-by_id ids rises places amounts within.1 place below,
    )

-- among distinct ids an id has what is found for it
share-found : (id : ℕ) (ids amounts : List ℕ) → IsDistinct nat_eq ids → share_at ids amounts id ≡ unwrap_or (lookup (nat_eq id) (zip ids amounts)) 0
unfolding IsDistinct
share-found id [] amounts once = refl
share-found id (first ∷ ids) [] once = refl
share-found id (first ∷ ids) (amount ∷ amounts) once =
    sum_by-cons (λ (pair : ℕ × ℕ). cond (nat_eq pair.0 id) pair.1 0) (first, amount) (zip ids amounts)
    ∙ (ap (λ b. cond b amount 0 + share_at ids amounts id) (nat_eq_equiv.symm first id)
    ∙ by (nat_eq id first) refl (share-found id ids amounts once.1))
  where
    nothing : (others amounts : List ℕ) → AllByRecursion (λ other. nat_eq first other ≡ false) others → id ≡ first → share_at others amounts id ≡ 0
    nothing [] amounts apart same = refl
    nothing (other ∷ others) [] apart same = refl
    nothing (other ∷ others) (amount ∷ amounts) apart same =
        omega (
          arith,
          sum_by-cons (λ (pair : ℕ × ℕ). cond (nat_eq pair.0 id) pair.1 0) (other, amount) (zip others amounts),
          ap (λ b. cond b amount 0) (nat_eq_equiv.symm other id ∙ (ap (λ n. nat_eq n other) same ∙ apart.0)),
          nothing others amounts apart.1 same,
        )

    by : (b : Bool) → nat_eq id first ≡ b → share_at ids amounts id ≡ unwrap_or (lookup (nat_eq id) (zip ids amounts)) 0 → cond b amount 0 + share_at ids amounts id ≡ unwrap_or (cond b (Some amount) (lookup (nat_eq id) (zip ids amounts))) 0
    by true same rest = omega (arith, nothing ids amounts once.0 (eqb-true id first same))
    by false same rest = omega (arith, rest)

-- by rules 1 and 2 the shares of a layer are what is allocated
shares-allocated : (tree : Tree) (losses : ℕ → ℕ) (rule top layer : ℕ) → nat_eq rule 0 ≡ false → shares tree losses rule top layer ≡ allocated tree losses rule top layer
shares-allocated tree losses rule top layer other = ap (λ b. cond b (policy_loss tree losses top layer ∷ []) (allocated tree losses rule top layer)) other

module _ (tree : Tree) (is : IsTree tree) (losses : ℕ → ℕ) (rule : ℕ) (other : nat_eq rule 0 ≡ false) where
  -- a row has a share for each owner
  length-row : (layers : List (ℕ × ℕ)) → length (row_for tree losses rule layers).shares ≡ length (flat_map (λ (key : ℕ × ℕ). beneath tree key.0) layers)
  length-row [] = refl
  length-row (key ∷ layers) =
      length-append (shares tree losses rule key.0 key.1) (row_for tree losses rule layers).shares
      ∙ (omega (arith, ap length (shares-allocated tree losses rule key.0 key.1 other), length-allocated tree losses rule key.0 key.1, length-row layers)
      ∙ sym (length-append (beneath tree key.0) (flat_map (λ (key : ℕ × ℕ). beneath tree key.0) layers)))

  -- what an id has of a row is what it has of each layer
  row-share : (id : ℕ) (layers : List (ℕ × ℕ)) → share_at (flat_map (λ (key : ℕ × ℕ). beneath tree key.0) layers) (row_for tree losses rule layers).shares id ≡ sum_by (λ key. part_of_id tree losses rule key.0 key.1 id) layers
  row-share id [] = refl
  row-share id (key ∷ layers) =
      ap (sum_by amount) (zip-append (beneath tree key.0) (flat_map (λ (key : ℕ × ℕ). beneath tree key.0) layers) (shares tree losses rule key.0 key.1) (row_for tree losses rule layers).shares (sym (ap length (shares-allocated tree losses rule key.0 key.1 other) ∙ length-allocated tree losses rule key.0 key.1)))
      ∙ (sum_by-append amount (zip (beneath tree key.0) (shares tree losses rule key.0 key.1)) (zip (flat_map (λ (key : ℕ × ℕ). beneath tree key.0) layers) (row_for tree losses rule layers).shares)
      ∙ (omega (
        arith,
        ap (λ amounts. share_at (beneath tree key.0) amounts id) (shares-allocated tree losses rule key.0 key.1 other),
        share-found id (beneath tree key.0) (allocated tree losses rule key.0 key.1) (distinct_filter (comes_to tree tree.top_level key.0) tree.ids is.ids_once),
        row-share id layers,
      )
      ∙ sym (sum_by-cons (λ (key : ℕ × ℕ). part_of_id tree losses rule key.0 key.1 id) key layers)))
    where
      amount : ℕ × ℕ → ℕ
      amount pair = cond (nat_eq pair.0 id) pair.1 0

-- ---- rows

module _ (tree : Tree) (parts : Parts) (is : IsProgramme tree parts) (places : List ℕ) (are : ArePlaces parts places) (losses : ℕ → ℕ) (rule : ℕ) (other : nat_eq rule 0 ≡ false) where
  -- what a place has of a row is what its id cedes
  pub ceded-is : (place : ℕ) → place < length parts.ids → share_at places (row_for tree losses rule (layers_of tree)).shares place ≡ ceded_loss tree losses rule (slice_index parts.ids place)
  ceded-is place below =
      share-by_id parts.ids is.ids_rise places (row_for tree losses rule (layers_of tree)).shares (recursion_from_All (λ place. place < length parts.ids) places are.within) place below
      ∙ (ap (λ owners. share_at owners (row_for tree losses rule (layers_of tree)).shares (slice_index parts.ids place)) (are.owners_are tree is)
      ∙ row-share tree is.is losses rule other (slice_index parts.ids place) (layers_of tree))

  -- the shares of a row have places and fit
  pub row-fits : HasFewLayers parts → sum (map losses tree.ids) ≤ 10 ^ 16 → HasShares (length parts.ids) places (row_for tree losses rule (layers_of tree)).shares
  row-fits few most = record {
    many = length-row tree is.is losses rule other (layers_of tree) ∙ (ap length (sym (are.owners_are tree is)) ∙ length-map places (slice_index parts.ids));
    within = are.within;
    few = λ place below. omega (arith, ceded-is place below, ceded-le tree parts is few losses most rule (slice_index parts.ids place));
  }

-- ---- the rows of a run

module _ (tree : Tree) (parts : Parts) (is : IsProgramme tree parts) (few : HasFewLayers parts) (ids : List ℕ) (ids_are : ids ≡ parts.ids) (places : List ℕ) (are : ArePlaces parts places) (rule samples : ℕ) (rule_is : (rule ≡ 1) ⊎ (rule ≡ 2)) (records : List LossRecord) (within : AreWithin records) (table : List Shared) (table_is : table ≡ table_for tree rule samples records (layers_of tree)) where
  shared : nat_eq rule 0 ≡ false
  shared = elim rule_is [
    | inl one ↦ ap (λ n. nat_eq n 0) one
    | inr two ↦ ap (λ n. nat_eq n 0) two
  ]

  -- the shares of each row have places and fit
  pub run-fits : All (λ row. HasShares (length ids) places row.shares) table
  run-fits =
      subst (λ n. All (λ row. HasShares n places row.shares) table) (ap length (sym ids_are)) (each-row tree rule samples records (layers_of tree) table table_is (λ row. HasShares (length parts.ids) places row.shares)
      (λ row. row-fits tree parts is places are (taken_loss tree records (sidx_at (row_place row))) rule shared few (omega (arith, taken-few tree is.is records (sidx_at (row_place row)), within (sidx_at (row_place row))))))

  module _ (ceded : List (List ℕ)) (held : AreCededShares (length ids) places table (length places) ceded) where
    long : length table ≡ samples + 1
    long = table-length tree rule samples records (layers_of tree) table table_is

    -- the sums of the shares are what the ids cede
    pub run-ceded : (row place : ℕ) → row < samples + 1 → place < length parts.ids → slice_index (column row ceded) place ≡ ceded_at tree rule records (slice_index parts.ids place) (sidx_at (row_place row))
    run-ceded row place below here =
        let inside : row < length table = omega (arith, below, long) in
        let own = ceded-all (length ids) places (row_at table row).shares (run-fits row no_shares inside) (length places) (omega arith) (column row ceded) (held.each row inside) in
        own.each place (subst (λ ids. place < length ids) (sym ids_are) here)
        ∙ (ap (λ (one : Shared). share_at places one.shares place) (row-is tree rule samples records (layers_of tree) table table_is row below)
        ∙ ceded-is tree parts is places are (taken_loss tree records (sidx_at (row_place row))) rule shared place here)

    -- a lane for each id
    pub run-rows : AreRows (length parts.ids) samples ceded
    run-rows = record { many = held.count_is ∙ ap length ids_are; each = subst (λ n. AreWide n ceded) long held.wide }
