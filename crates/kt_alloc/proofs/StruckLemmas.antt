-- The insured losses of a run by the tree of its struck units are those by the whole tree.
use Rattle.std.proofs.Common.{◌≡◌, ℕ, ◌&&◌, Bool, true, false, cond, nat_eq, ℤ, List, [], ◌∷◌, ◌++◌, Option, Some, None, map, refl, sym, ap, ◌∙◌, arith}
use Rattle.std.proofs.Math.Path.{fun_ext}
use Rattle.std.specs.Cmp.{nat_eq_equiv}
use Rattle.std.specs.List.{cons_option, filter, filter_map, flat_map, list_any, sum, sum_by}
use Rattle.std.proofs.lemmas.List.Elements.{filter_map-append}
use Rattle.std.proofs.lemmas.List.Sums.{sum_by-cons}
use Rattle.kt_rec.specs.declared.financial.FmXref.{FmXref}
use Rattle.kt_keys.specs.Climbing.{climbed}
use Rattle.kt_stream.specs.declared.entry.LossRecord.{LossRecord}
use Rattle.kt_runs.specs.RunLosses.{event_of}
use Rattle.kt_runs.specs.Sidx.{pairs_of}
use Rattle.kt_rec.specs.Members.{any-of, member-filter}
use Rattle.kt_fmtree.specs.Struck.{is_struck, struck}
use Rattle.kt_fmtree.specs.StruckLaws.{climbed-other, climbed-struck, policy_loss-none, policy_loss-struck, struck-is}
use Rattle.kt_fmtree.specs.StruckSharing.{allocated-struck, part-none}
use Rattle.kt_fmtree.specs.Tree.{Tree, IsTree, comes_to, is_unit, policy_loss}
use Rattle.kt_levels.specs.Shares.{layers_of, part_of_id, shares, taken_loss}
use Rattle.kt_runs.specs.Records.{ids_of, insured_range, record_with, sample_range}
use Rattle.kt_levels.specs.SharesLaws.{shares-sum}
use Rattle.kt_levels.specs.StruckLaws.{taken-quiet, taken-struck}
use Rattle.kt_alloc.specs.Insured.{in_order, insured_records, layer_sum, layer_sums, of_layer, output_loss, part_above, sum_with}
use Rattle.kt_block.specs.declared.layer_sum.LayerSum.{LayerSum}

-- ---- the loss of an output

module _ (tree : Tree) (is : IsTree tree) (ids : List ℕ) (losses : ℕ → ℕ) (quiet : (id : ℕ) → list_any (nat_eq id) ids ≡ false → losses id ≡ 0) (rule layer : ℕ) where
  -- nothing is nothing, whether a top has the layer or not
  of_layer-none : (top amount : ℕ) → amount ≡ 0 → of_layer tree top layer amount ≡ 0
  of_layer-none top amount none = by (list_any (nat_eq top) tree.tops && list_any (nat_eq layer) (tree.layers top))
    where
      by : (b : Bool) → cond b amount 0 ≡ 0
      by true = none
      by false = refl

  -- what a top has, among the struck ones and among all
  of_layer-struck : (top amount : ℕ) → (is_struck tree ids tree.top_level top ≡ false → amount ≡ 0) → of_layer (struck tree ids) top layer amount ≡ of_layer tree top layer amount
  of_layer-struck top amount other =
      ap (λ b. cond (b && list_any (nat_eq layer) (tree.layers top)) amount 0) (member-filter (is_struck tree ids tree.top_level) top tree.tops)
      ∙ by (is_struck tree ids tree.top_level top) refl
    where
      by : (b : Bool) → is_struck tree ids tree.top_level top ≡ b → cond ((b && list_any (nat_eq top) tree.tops) && list_any (nat_eq layer) (tree.layers top)) amount 0 ≡ of_layer tree top layer amount
      by true here = refl
      by false none = sym (of_layer-none top amount (other none))

  -- what an output has
  pub output_loss-struck : (agg : ℕ) → output_loss (struck tree ids) losses rule agg layer ≡ output_loss tree losses rule agg layer
  output_loss-struck agg = by_rule (nat_eq rule 0)
    where
      whole : of_layer (struck tree ids) agg layer (policy_loss (struck tree ids) losses agg layer) ≡ of_layer tree agg layer (policy_loss tree losses agg layer)
      whole =
          ap (of_layer (struck tree ids) agg layer) (policy_loss-struck tree is ids losses quiet agg layer)
          ∙ of_layer-struck agg (policy_loss tree losses agg layer) (policy_loss-none tree is ids losses quiet agg layer)

      up_struck : (found : Option ℕ) → climbed tree.next tree.top_level 1 agg ≡ found → list_any (nat_eq agg) ids ≡ true → part_above (struck tree ids) losses rule agg layer found ≡ part_above tree losses rule agg layer found
      up_struck None climbs member = refl
      up_struck (Some top) climbs member =
          ap (of_layer (struck tree ids) top layer) (allocated-struck tree is ids losses quiet rule top layer agg)
          ∙ of_layer-struck top (part_of_id tree losses rule top layer agg) (λ none. let here = any-of (comes_to tree tree.top_level top) agg ids member (ap (is_unit top) climbs ∙ nat_eq_equiv.refl top) in let clash : true ≡ false = sym here ∙ none in cc)

      up_other : (found : Option ℕ) → list_any (nat_eq agg) ids ≡ false → 0 ≡ part_above tree losses rule agg layer found
      up_other None other = refl
      up_other (Some top) other = sym (of_layer-none top (part_of_id tree losses rule top layer agg) (part-none tree is ids losses quiet rule top layer agg (quiet agg other)))

      parts : (b : Bool) → list_any (nat_eq agg) ids ≡ b → part_above (struck tree ids) losses rule agg layer (climbed (struck tree ids).next tree.top_level 1 agg) ≡ part_above tree losses rule agg layer (climbed tree.next tree.top_level 1 agg)
      parts true member =
          ap (part_above (struck tree ids) losses rule agg layer) (climbed-struck tree is ids tree.top_level agg member)
          ∙ up_struck (climbed tree.next tree.top_level 1 agg) refl member
      parts false other =
          ap (part_above (struck tree ids) losses rule agg layer) (climbed-other tree is ids tree.top_level agg is.levels other)
          ∙ up_other (climbed tree.next tree.top_level 1 agg) other

      by_rule : (b : Bool) → cond b (of_layer (struck tree ids) agg layer (policy_loss (struck tree ids) losses agg layer)) (part_above (struck tree ids) losses rule agg layer (climbed (struck tree ids).next tree.top_level 1 agg)) ≡ cond b (of_layer tree agg layer (policy_loss tree losses agg layer)) (part_above tree losses rule agg layer (climbed tree.next tree.top_level 1 agg))
      by_rule true = whole
      by_rule false = parts (list_any (nat_eq agg) ids) refl

-- ---- the records and the sums of a run

module _ (tree : Tree) (is : IsTree tree) (rule samples : ℕ) (records : List LossRecord) where
  abbrev below : Tree
  below = struck tree (ids_of records)

  -- the records are those by the whole tree
  pub records-struck : (outputs : List FmXref) → insured_records below rule samples outputs records ≡ insured_records tree rule samples outputs records
  records-struck outputs =
      ap (λ made. filter_map made (in_order outputs)) (fun_ext (λ (output : FmXref). ap (λ (loss : ℤ → ℕ). record_with (event_of records) output.output_id (pairs_of loss (insured_range samples))) (fun_ext (λ (sidx : ℤ). one output sidx))))
    where
      one : (output : FmXref) (sidx : ℤ) → output_loss below (taken_loss below records sidx) rule output.agg_id output.layer_id ≡ output_loss tree (taken_loss tree records sidx) rule output.agg_id output.layer_id
      one output sidx =
          ap (λ losses. output_loss below losses rule output.agg_id output.layer_id) (taken-struck tree is records sidx)
          ∙ output_loss-struck tree is (ids_of records) (taken_loss tree records sidx) (taken-quiet tree is records sidx) rule output.layer_id output.agg_id

  -- a policy loss of the run is what it was
  policy-same : (top layer : ℕ) (sidx : ℤ) → policy_loss below (taken_loss below records sidx) top layer ≡ policy_loss tree (taken_loss tree records sidx) top layer
  policy-same top layer sidx =
      ap (λ losses. policy_loss below losses top layer) (taken-struck tree is records sidx)
      ∙ policy_loss-struck tree is (ids_of records) (taken_loss tree records sidx) (taken-quiet tree is records sidx) top layer

  -- so the sum of a layer is
  sum-same : (key : ℕ × ℕ) → layer_sum below rule samples records key ≡ layer_sum tree rule samples records key
  sum-same key =
      (λ i. sum_with (event_of records) key.0 key.1
      (sum_by (λ sidx. policy-same key.0 key.1 sidx i) (sample_range samples))
      (sum_by (λ sidx. shared sidx i) (sample_range samples)))
    where
      shared : (sidx : ℤ) → sum (shares below (taken_loss below records sidx) rule key.0 key.1) ≡ sum (shares tree (taken_loss tree records sidx) rule key.0 key.1)
      shared sidx =
          shares-sum below (struck-is tree is (ids_of records)) (taken_loss below records sidx) rule key.0 key.1
          ∙ (policy-same key.0 key.1 sidx
          ∙ sym (shares-sum tree is (taken_loss tree records sidx) rule key.0 key.1))

  -- a top that is not struck has no sum
  sum-none : (top layer : ℕ) → is_struck tree (ids_of records) tree.top_level top ≡ false → layer_sum tree rule samples records (top, layer) ≡ None
  sum-none top layer none = ap (λ policy. sum_with (event_of records) top layer policy (sum_by (λ sidx. sum (shares tree (taken_loss tree records sidx) rule top layer)) (sample_range samples))) (nothing (sample_range samples))
    where
      nothing : (range : List ℤ) → sum_by (λ sidx. policy_loss tree (taken_loss tree records sidx) top layer) range ≡ 0
      nothing [] = refl
      nothing (sidx ∷ range) = omega (arith, sum_by-cons (λ (s : ℤ). policy_loss tree (taken_loss tree records s) top layer) sidx range, policy_loss-none tree is (ids_of records) (taken_loss tree records sidx) (taken-quiet tree is records sidx) top layer none, nothing range)

  -- the sums are those by the whole tree
  pub sums-struck : layer_sums below rule samples records ≡ layer_sums tree rule samples records
  sums-struck =
      ap (λ made. filter_map made (layers_of below)) (fun_ext (λ (key : ℕ × ℕ). sum-same key))
      ∙ over tree.tops
    where
      layers_at : ℕ → List (ℕ × ℕ)
      layers_at top = map (λ layer. (top, layer)) (tree.layers top)

      made : ℕ × ℕ → Option LayerSum
      made = layer_sum tree rule samples records

      none_of : (top : ℕ) → is_struck tree (ids_of records) tree.top_level top ≡ false → (layers : List ℕ) → filter_map made (map (λ layer. (top, layer)) layers) ≡ []
      none_of top other [] = refl
      none_of top other (layer ∷ layers) = ap (λ found. cons_option found (filter_map made (map (λ layer. (top, layer)) layers))) (sum-none top layer other) ∙ none_of top other layers

      over : (tops : List ℕ) → filter_map made (flat_map layers_at (filter (is_struck tree (ids_of records) tree.top_level) tops)) ≡ filter_map made (flat_map layers_at tops)
      over [] = refl
      over (top ∷ tops) = by (is_struck tree (ids_of records) tree.top_level top) refl (over tops) ∙ sym (filter_map-append made (layers_at top) (flat_map layers_at tops))
        where
          by : (b : Bool) → is_struck tree (ids_of records) tree.top_level top ≡ b → filter_map made (flat_map layers_at (filter (is_struck tree (ids_of records) tree.top_level) tops)) ≡ filter_map made (flat_map layers_at tops)
              → filter_map made (flat_map layers_at (cond b (top ∷ filter (is_struck tree (ids_of records) tree.top_level) tops) (filter (is_struck tree (ids_of records) tree.top_level) tops))) ≡ filter_map made (layers_at top) ++ filter_map made (flat_map layers_at tops)
          by true here rest = filter_map-append made (layers_at top) (flat_map layers_at (filter (is_struck tree (ids_of records) tree.top_level) tops)) ∙ ap (λ later. filter_map made (layers_at top) ++ later) rest
          by false other rest = rest ∙ ap (λ front. front ++ filter_map made (flat_map layers_at tops)) (sym (none_of top other (tree.layers top)))
