-- All outputs together have the policy losses of all layers.
use Rattle.std.proofs.Common.{◌≡◌, ℕ, ◌&&◌, ◌||◌, Bool, true, false, cond, nat_eq, List, [], ◌∷◌, Option, Some, None, map, refl, sym, ap, ◌∙◌, unwrap_or, eqb-true}
use Rattle.std.specs.List.{AllByRecursion, IsDistinct, filter, list_any, sum_by}
use Rattle.std.proofs.lemmas.Map.Views.{any-filter_same}
use Rattle.kt_rec.specs.Rows.{Rows}
use Rattle.kt_rec.specs.declared.financial.FmXref.{FmXref}
use Rattle.kt_keys.specs.Keys.{policytc_of, programme_of}
use Rattle.kt_keys.specs.Units.{top_level, top_targets}
use Rattle.kt_keys.specs.Climbing.{climbed}
use Rattle.kt_fmtree.specs.Programme.{or_first, tree_of}
use Rattle.kt_rec.specs.Rising.{rising, rising-distinct}
use Rattle.kt_fmtree.specs.Sharing.{allocated}
use Rattle.kt_rec.specs.Sums.{each_flat_map, each_member, each_then, sum_by-agree, sum_by-flat_map, sum_by-none, sum_by-one, sum_by-swap}
use Rattle.kt_fmtree.specs.Tree.{Tree, beneath, comes_to, is_unit, policy_loss}
use Rattle.kt_levels.specs.LookupLaws.{lookup-none}
use Rattle.kt_levels.specs.Shares.{layers_of, part_of_id}
use Rattle.kt_alloc.specs.Insured.{of_layer, output_loss, part_above}
use Rattle.kt_alloc.specs.Layout.{owners}
use Rattle.kt_alloc.specs.Whole.{has_share, outputs_loss}
use Rattle.kt_alloc.proofs.SumLemmas.{each-of, either-none, mapped-each, sum_by-mapped}

-- ---- the layers of the tops

-- amounts of the layers, top by top
pub layers-sum : (tree : Tree) (amount : ℕ × ℕ → ℕ) → sum_by amount (layers_of tree) ≡ sum_by (λ top. sum_by (λ layer. amount (top, layer)) (tree.layers top)) tree.tops
layers-sum tree amount =
    sum_by-flat_map amount (λ top. map (λ layer. (top, layer)) (tree.layers top)) tree.tops
    ∙ sum_by-agree (λ top. sum_by amount (map (λ layer. (top, layer)) (tree.layers top))) (λ top. sum_by (λ layer. amount (top, layer)) (tree.layers top)) tree.tops (each-of _ (λ top. sum_by-mapped amount (λ layer. (top, layer)) (tree.layers top)) tree.tops)

-- each is one of a top
layers-each : (tree : Tree) → AllByRecursion (λ key. (list_any (nat_eq key.0) tree.tops ≡ true) × (list_any (nat_eq key.1) (tree.layers key.0) ≡ true)) (layers_of tree)
layers-each tree =
    each_flat_map (λ top. list_any (nat_eq top) tree.tops ≡ true) (λ (key : ℕ × ℕ). (list_any (nat_eq key.0) tree.tops ≡ true) × (list_any (nat_eq key.1) (tree.layers key.0) ≡ true)) (λ top. map (λ layer. (top, layer)) (tree.layers top))
    (λ top is_top. mapped-each _ (λ layer. (top, layer)) (tree.layers top) (each_then _ _ (λ layer is_layer. (is_top, is_layer)) (tree.layers top) (each_member (tree.layers top))))
    tree.tops (each_member tree.tops)

-- ---- one output over all layers

module _ (tree : Tree) (tops_once : IsDistinct nat_eq tree.tops) (layers_once : (top : ℕ) → IsDistinct nat_eq (tree.layers top)) (losses : ℕ → ℕ) (rule : ℕ) where
  module _ (agg layer : ℕ) where
    -- an amount of the output for each layer that it has a share of
    abbrev over : ℕ → ℕ
    over amount = sum_by (λ top. sum_by (λ other. cond (list_any (nat_eq agg) (owners tree rule top) && nat_eq layer other) amount 0) (tree.layers top)) tree.tops

    -- over the layers of one top
    in-top : (own : Bool) (amount top : ℕ) → sum_by (λ other. cond (own && nat_eq layer other) amount 0) (tree.layers top) ≡ cond (own && list_any (nat_eq layer) (tree.layers top)) amount 0
    in-top true amount top = sum_by-one amount layer (tree.layers top) (layers_once top)
    in-top false amount top = sum_by-none (tree.layers top)

    -- where the output can have a share of one top alone
    over-one : (unit : ℕ) (mine : Bool) (part : ℕ) → ((top : ℕ) → list_any (nat_eq agg) (owners tree rule top) ≡ (nat_eq unit top && mine)) → (mine ≡ false → part ≡ 0) → over (of_layer tree unit layer part) ≡ of_layer tree unit layer part
    over-one unit mine part own none =
        sum_by-agree (λ top. sum_by (λ other. cond (list_any (nat_eq agg) (owners tree rule top) && nat_eq layer other) whole 0) (tree.layers top)) (λ top. cond (nat_eq unit top) (cond (mine && list_any (nat_eq layer) (tree.layers unit)) whole 0) 0) tree.tops (each-of _ each tree.tops)
        ∙ (sum_by-one (cond (mine && list_any (nat_eq layer) (tree.layers unit)) whole 0) unit tree.tops tops_once
        ∙ ends mine (list_any (nat_eq unit) tree.tops) (list_any (nat_eq layer) (tree.layers unit)) none)
      where
        whole : ℕ
        whole = of_layer tree unit layer part

        each : (top : ℕ) → sum_by (λ other. cond (list_any (nat_eq agg) (owners tree rule top) && nat_eq layer other) whole 0) (tree.layers top) ≡ cond (nat_eq unit top) (cond (mine && list_any (nat_eq layer) (tree.layers unit)) whole 0) 0
        each top =
            in-top (list_any (nat_eq agg) (owners tree rule top)) whole top
            ∙ (ap (λ own. cond (own && list_any (nat_eq layer) (tree.layers top)) whole 0) (own top)
            ∙ by (nat_eq unit top) refl)
          where
            by : (b : Bool) → nat_eq unit top ≡ b → cond ((b && mine) && list_any (nat_eq layer) (tree.layers top)) whole 0 ≡ cond b (cond (mine && list_any (nat_eq layer) (tree.layers unit)) whole 0) 0
            by true same = ap (λ top. cond (mine && list_any (nat_eq layer) (tree.layers top)) whole 0) (sym (eqb-true unit top same))
            by false apart = refl

        ends : (m a b : Bool) → (m ≡ false → part ≡ 0) → cond a (cond (m && b) (cond (a && b) part 0) 0) 0 ≡ cond (a && b) part 0
        ends m false b none = refl
        ends true true true none = refl
        ends true true false none = refl
        ends false true true none = sym (none refl)
        ends false true false none = refl

    -- nothing over all layers is nothing
    over-none : over 0 ≡ 0
    over-none =
        sum_by-agree (λ top. sum_by (λ other. cond (list_any (nat_eq agg) (owners tree rule top) && nat_eq layer other) 0 0) (tree.layers top)) (λ top. 0) tree.tops
        (each-of _ (λ top. in-top (list_any (nat_eq agg) (owners tree rule top)) 0 top ∙ either-none (list_any (nat_eq agg) (owners tree rule top) && list_any (nat_eq layer) (tree.layers top))) tree.tops)
        ∙ sum_by-none tree.tops

    -- whether the output is of an id beneath a top
    beneath-is : (top : ℕ) → list_any (nat_eq agg) (beneath tree top) ≡ (comes_to tree tree.top_level top agg && list_any (nat_eq agg) tree.ids)
    beneath-is top = any-filter_same (nat_eq agg) (comes_to tree tree.top_level top) (comes_to tree tree.top_level top agg) (λ id same. ap (comes_to tree tree.top_level top) (sym (eqb-true agg id same))) tree.ids

    -- the loss of the output counts once
    over-own : over (output_loss tree losses rule agg layer) ≡ output_loss tree losses rule agg layer
    over-own = by (nat_eq rule 0) refl
      where
        never : (b : Bool) → (b && false) ≡ false
        never true = refl
        never false = refl

        same-top : (b : Bool) → (b || false) ≡ (b && true)
        same-top true = refl
        same-top false = refl

        owners-are : (b : Bool) → nat_eq rule 0 ≡ b → (top : ℕ) → list_any (nat_eq agg) (owners tree rule top) ≡ list_any (nat_eq agg) (cond b (top ∷ []) (beneath tree top))
        owners-are b is top = ap (λ b. list_any (nat_eq agg) (cond b (top ∷ []) (beneath tree top))) is

        above : nat_eq rule 0 ≡ false → (up : Option ℕ) → climbed tree.next tree.top_level 1 agg ≡ up → over (part_above tree losses rule agg layer up) ≡ part_above tree losses rule agg layer up
        above other None up = over-none
        above other (Some unit) up =
            over-one unit (list_any (nat_eq agg) tree.ids) (part_of_id tree losses rule unit layer agg)
            (λ top. owners-are false other top ∙ (beneath-is top ∙ ap (λ found. is_unit top found && list_any (nat_eq agg) tree.ids) up))
            (λ none. ap (λ found. unwrap_or found 0) (lookup-none agg (beneath tree unit) (allocated tree losses rule unit layer) (beneath-is unit ∙ (ap (λ b. comes_to tree tree.top_level unit agg && b) none ∙ never (comes_to tree tree.top_level unit agg)))))

        by : (b : Bool) → nat_eq rule 0 ≡ b → over (cond b (of_layer tree agg layer (policy_loss tree losses agg layer)) (part_above tree losses rule agg layer (climbed tree.next tree.top_level 1 agg))) ≡ cond b (of_layer tree agg layer (policy_loss tree losses agg layer)) (part_above tree losses rule agg layer (climbed tree.next tree.top_level 1 agg))
        by true is = over-one agg true (policy_loss tree losses agg layer) (λ top. owners-are true is top ∙ same-top (nat_eq agg top)) (λ clash. cc)
        by false is = above is (climbed tree.next tree.top_level 1 agg) refl

  -- ---- all outputs

  -- where the outputs of each layer have its policy loss, all outputs have those of all layers
  outputs-total : (outputs : List FmXref) → ((top layer : ℕ) → list_any (nat_eq top) tree.tops ≡ true → list_any (nat_eq layer) (tree.layers top) ≡ true → outputs_loss tree losses rule outputs top layer ≡ policy_loss tree losses top layer) → sum_by (λ output. output_loss tree losses rule output.agg_id output.layer_id) outputs ≡ sum_by (λ key. policy_loss tree losses key.0 key.1) (layers_of tree)
  outputs-total outputs whole =
      sum_by-agree loss (λ output. sum_by (λ key. share output key) (layers_of tree)) outputs (each-of _ (λ output. sym (layers-sum tree (share output) ∙ over-own output.agg_id output.layer_id)) outputs)
      ∙ (sum_by-swap share outputs (layers_of tree)
      ∙ sum_by-agree (λ key. outputs_loss tree losses rule outputs key.0 key.1) (λ key. policy_loss tree losses key.0 key.1) (layers_of tree) (each_then _ _ (λ key here. whole key.0 key.1 here.0 here.1) (layers_of tree) (layers-each tree)))
    where
      loss : FmXref → ℕ
      loss output = output_loss tree losses rule output.agg_id output.layer_id

      share : FmXref → ℕ × ℕ → ℕ
      share output key = cond (has_share tree rule key.0 key.1 output) (loss output) 0

-- the same of the outputs of tables
pub rows-total : (rows : Rows) (rule : ℕ) (losses : ℕ → ℕ) → ((top layer : ℕ) → list_any (nat_eq top) (tree_of rows 0).tops ≡ true → list_any (nat_eq layer) ((tree_of rows 0).layers top) ≡ true → outputs_loss (tree_of rows 0) losses rule rows.fm_xref top layer ≡ policy_loss (tree_of rows 0) losses top layer) → sum_by (λ output. output_loss (tree_of rows 0) losses rule output.agg_id output.layer_id) rows.fm_xref ≡ sum_by (λ key. policy_loss (tree_of rows 0) losses key.0 key.1) (layers_of (tree_of rows 0))
unfolding IsDistinct
rows-total rows rule losses whole =
    outputs-total (tree_of rows 0) (rising-distinct (top_targets (programme_of rows 0)))
    (λ top. or-first (rising (map (λ row. row.layer_id) (filter (λ row. nat_eq row.level_id (top_level (programme_of rows 0)) && nat_eq row.agg_id top) (policytc_of rows 0)))) (rising-distinct (map (λ row. row.layer_id) (filter (λ row. nat_eq row.level_id (top_level (programme_of rows 0)) && nat_eq row.agg_id top) (policytc_of rows 0)))))
    losses rule rows.fm_xref whole
  where
    or-first : (layers : List ℕ) → IsDistinct nat_eq layers → IsDistinct nat_eq (or_first layers)
    or-first [] once = (tt, tt)
    or-first (layer ∷ layers) once = once
