-- What layers have at all sidx of a run, row by row, and as lanes.
use Rattle.std.proofs.Common.{◌≡◌, ◌⊎◌, inl, inr, ℕ, zero, suc, ◌+◌, ◌<◌, ◌≤◌, List, [], ◌∷◌, ◌++◌, Vec, Global, length, map, take, slice_index, refl, sym, ap, subst, ◌∙◌, arith}
use Rattle.std.proofs.lemmas.Bool.{cases_lt}
use Rattle.std.proofs.lemmas.List.{get_or-map, length-map, take_all, take_more}
use Rattle.kt_fmtree.specs.Tree.{Tree, policy_loss}
use Rattle.kt_fmtree.specs.Carried.{loss_by}
use Rattle.kt_fmtree.specs.Parts.{Parts, HasProgramme, IsProgramme}
use Rattle.kt_lanes.specs.Lanes.{AreLanes, AreWide, column}
use Rattle.kt_lanes.specs.LaneLaws.{lanes-are, lanes-more, lanes-none, length-more}
use Rattle.kt_levels.specs.ByLanes.{AreLayers, AreLong, AreRows, amounts_at, row_in}
use Rattle.kt_levels.specs.Layers.{key_of}
use Rattle.kt_levels.specs.Row.{HasRow}
use Rattle.kt_levels.specs.declared.by_lanes.LayerLanes.{LayerLanes}
use Rattle.kt_levels.specs.declared.by_rows.LayerRows.{LayerRows}
use Rattle.kt_levels.specs.declared.layers.TopLayer.{TopLayer}
use Rattle.kt_levels.proofs.RowLemmas.{shares-long}

-- ---- rows as lanes

-- a row is as long as all
row-wide : (count : ℕ) (rows : List (Vec ℕ Global)) → AreLong count rows → (k : ℕ) → k < length rows → length (row_in rows k) ≡ count
row-wide count [] wide k below = absurd (omega arith)
row-wide count (row ∷ rows) wide zero below = wide zero row (omega arith)
row-wide count (row ∷ rows) wide (suc k) below = row-wide count rows (λ j d inside. wide (suc j) d (omega arith)) k (omega arith)

-- and all are where each is
wide-rows : (count : ℕ) (rows : List (Vec ℕ Global)) → ((k : ℕ) → k < length rows → length (row_in rows k) ≡ count) → AreLong count rows
wide-rows count rows each = λ k d below. ap length (sym (get_or-map (λ (row : Vec ℕ Global). row.items) rows k d [] below)) ∙ each k below

-- what rows have at a place
column-in : (rows : List (Vec ℕ Global)) (k place : ℕ) → k < length rows → slice_index (amounts_at place rows) k ≡ slice_index (row_in rows k) place
column-in [] k place below = absurd (omega arith)
column-in (row ∷ rows) zero place below = refl
column-in (row ∷ rows) (suc k) place below = column-in rows k place (omega arith)

module _ (count : ℕ) (rows : List (Vec ℕ Global)) (wide : AreLong count rows) where
  pub turned-start : AreLanes (length rows) 0 (λ k. take 0 (row_in rows k)) []
  turned-start = lanes-none (length rows) (λ k. take 0 (row_in rows k)) (λ k below. refl)

  -- one more lane
  pub turned-more : (place : ℕ) → place < count → (lanes more : List (List ℕ)) (lane : List ℕ) → AreLanes (length rows) place (λ k. take place (row_in rows k)) lanes → lane ≡ amounts_at place rows → more ≡ lanes ++ lane ∷ [] → AreLanes (length rows) (place + 1) (λ k. take (place + 1) (row_in rows k)) more
  turned-more place below lanes more lane so_far lane_is more_is =
      lanes-more (length rows) place (λ k. take place (row_in rows k)) (λ k. take (place + 1) (row_in rows k)) (λ k. slice_index (row_in rows k) place) lanes more lane so_far
      (record {
        wide = ap length lane_is ∙ length-map rows (λ (row : Vec ℕ Global). slice_index row.items place);
        each = λ k inside. ap (λ all. slice_index all k) lane_is ∙ column-in rows k place inside;
      }) more_is (λ k inside. sym (take_more (row_in rows k) place 0 (omega (arith, below, row-wide count rows wide k inside))))

  -- all lanes
  pub turned-end : (lanes : List (List ℕ)) → AreLanes (length rows) count (λ k. take count (row_in rows k)) lanes → AreLanes (length rows) count (row_in rows) lanes
  turned-end lanes are = lanes-are (length rows) count count (λ k. take count (row_in rows k)) (row_in rows) lanes are refl (λ k inside. take_all count (row_in rows k) (omega (arith, row-wide count rows wide k inside)))

-- ---- rows, one after the other

row-old : (rows : List (Vec ℕ Global)) (row : Vec ℕ Global) (k : ℕ) → k < length rows → row_in rows k ≡ row_in (rows ++ row ∷ []) k
row-old [] row k below = absurd (omega arith)
row-old (first ∷ rows) row zero below = refl
row-old (first ∷ rows) row (suc k) below = row-old rows row k (omega arith)

row-new : (rows : List (Vec ℕ Global)) (row : Vec ℕ Global) (k : ℕ) → length rows ≡ k → row.items ≡ row_in (rows ++ row ∷ []) k
row-new [] row zero same = refl
row-new [] row (suc k) same = absurd (omega arith)
row-new (first ∷ rows) row zero same = absurd (omega arith)
row-new (first ∷ rows) row (suc k) same = row-new rows row k (omega arith)

module _ (parts : Parts) (lanes : List (List ℕ)) (rule : ℕ) (layers : List TopLayer) where
  pub rows-start : (rows : LayerRows) → rows.shares.items ≡ [] → rows.policies.items ≡ [] → AreRows parts lanes rule layers 0 rows
  rows-start rows shares_are policies_are = record { shares_many = ap length shares_are; policies_many = ap length policies_are; rows = λ tree is k below. absurd (omega arith) }

  -- one more row
  pub rows-push : (at : ℕ) (before now : LayerRows) (shares policies : Vec ℕ Global) → now.shares.items ≡ before.shares.items ++ shares ∷ [] → now.policies.items ≡ before.policies.items ++ policies ∷ [] → ((tree : Tree) → IsProgramme tree parts → HasRow tree (loss_by tree.ids (column at lanes)) rule layers shares.items policies.items) → AreRows parts lanes rule layers at before → AreRows parts lanes rule layers (at + 1) now
  rows-push at before now shares policies shares_are policies_are row so_far = record {
    shares_many = ap length shares_are ∙ (length-more before.shares.items shares ∙ ap (λ n. n + 1) so_far.shares_many);
    policies_many = ap length policies_are ∙ (length-more before.policies.items policies ∙ ap (λ n. n + 1) so_far.policies_many);
    rows = λ tree is k below. by tree is k below (cases_lt k at);
  }
    where
      has : (tree : Tree) (k : ℕ) (a b c d : List ℕ) → a ≡ b → c ≡ d → HasRow tree (loss_by tree.ids (column k lanes)) rule layers a c → HasRow tree (loss_by tree.ids (column k lanes)) rule layers b d
      has tree k a b c d e f row = record { shares_are = sym e ∙ row.shares_are; policies_are = sym f ∙ row.policies_are }

      by : (tree : Tree) → IsProgramme tree parts → (k : ℕ) → k < at + 1 → (k < at) ⊎ (at ≤ k) → HasRow tree (loss_by tree.ids (column k lanes)) rule layers (row_in now.shares.items k) (row_in now.policies.items k)
      by tree is k below (inl less) =
          has tree k _ _ _ _
          (row-old before.shares.items shares k (omega (arith, less, so_far.shares_many)) ∙ ap (λ all. row_in all k) (sym shares_are))
          (row-old before.policies.items policies k (omega (arith, less, so_far.policies_many)) ∙ ap (λ all. row_in all k) (sym policies_are))
          (so_far.rows tree is k less)
      by tree is k below (inr most) =
          let here : at ≡ k = omega (arith, below, most) in
          has tree k _ _ _ _
          (row-new before.shares.items shares k (so_far.shares_many ∙ here) ∙ ap (λ all. row_in all k) (sym shares_are))
          (row-new before.policies.items policies k (so_far.policies_many ∙ here) ∙ ap (λ all. row_in all k) (sym policies_are))
          (subst (λ n. HasRow tree (loss_by tree.ids (column n lanes)) rule layers shares.items policies.items) here (row tree is))

  module _ (width : ℕ) (some : 0 < width) (rows : LayerRows) (are : AreRows parts lanes rule layers width rows) where
    -- each row has as many shares as the first
    pub shares-wide : HasProgramme parts → AreLong (length (row_in rows.shares.items 0)) rows.shares.items
    shares-wide has = wide-rows (length (row_in rows.shares.items 0)) rows.shares.items (λ k below.
        let inside : k < width = omega (arith, below, are.shares_many) in
        ap length (are.rows has.tree has.is k inside).shares_are
        ∙ (shares-long has.tree (loss_by has.tree.ids (column k lanes)) (loss_by has.tree.ids (column 0 lanes)) rule (map key_of layers)
        ∙ ap length (sym (are.rows has.tree has.is 0 some).shares_are)))

    -- and a policy loss for each layer
    pub policies-wide : HasProgramme parts → AreLong (length layers) rows.policies.items
    policies-wide has = wide-rows (length layers) rows.policies.items (λ k below.
        let inside : k < width = omega (arith, below, are.policies_many) in
        ap length (are.rows has.tree has.is k inside).policies_are
        ∙ (length-map (map key_of layers) (λ (key : ℕ × ℕ). policy_loss has.tree (loss_by has.tree.ids (column k lanes)) key.0 key.1)
        ∙ length-map layers key_of))

    -- as lanes they have what the layers have
    pub rows-turned : (shares_count policies_count : ℕ) (made : LayerLanes) → AreLanes (length rows.shares.items) shares_count (row_in rows.shares.items) made.shares → AreLanes (length rows.policies.items) policies_count (row_in rows.policies.items) made.policies → AreLayers parts lanes width rule layers made
    rows-turned shares_count policies_count made shares policies = record {
      shares_wide = subst (λ n. AreWide n made.shares) are.shares_many shares.wide;
      policies_wide = subst (λ n. AreWide n made.policies) are.policies_many policies.wide;
      rows = λ tree is k below. record {
        shares_are = shares.each k (omega (arith, below, are.shares_many)) ∙ (are.rows tree is k below).shares_are;
        policies_are = policies.each k (omega (arith, below, are.policies_many)) ∙ (are.rows tree is k below).policies_are;
      };
    }
