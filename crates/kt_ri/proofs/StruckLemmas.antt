-- What is left of a run by the tree of its struck units is what is left by the whole tree.
use Rattle.std.proofs.Common.{◌≡◌, ℕ, Bool, true, false, cond, nat_eq, ℤ, List, [], ◌∷◌, map, refl, sym, ap, ◌∙◌, arith}
use Rattle.std.proofs.Math.Path.{fun_ext}
use Rattle.std.specs.List.{filter, filter_map, sum_by}
use Rattle.std.proofs.lemmas.List.Sums.{sum_by-cons}
use Rattle.kt_stream.specs.declared.entry.LossRecord.{LossRecord}
use Rattle.kt_runs.specs.RunLosses.{loss_of}
use Rattle.kt_runs.specs.Sidx.{pairs_of}
use Rattle.kt_fmtree.specs.Struck.{is_struck, struck}
use Rattle.kt_fmtree.specs.StruckLaws.{policy_loss-none}
use Rattle.kt_fmtree.specs.StruckSharing.{allocated-struck}
use Rattle.kt_fmtree.specs.Sharing.{allocated}
use Rattle.kt_fmtree.specs.SharingLaws.{allocated-sum}
use Rattle.kt_rec.specs.Sums.{sum_by-agree, sum_by-filter, sum_by-flat_map}
use Rattle.kt_fmtree.specs.Tree.{Tree, IsTree, beneath}
use Rattle.kt_fmtree.specs.TreeLaws.{each}
use Rattle.kt_levels.specs.LookupLaws.{lookup-few}
use Rattle.kt_levels.specs.Shares.{layers_of, part_of_id, taken_loss}
use Rattle.kt_runs.specs.Records.{ids_of, insured_range, record_with}
use Rattle.kt_levels.specs.StruckLaws.{taken-quiet, taken-struck}
use Rattle.kt_ri.specs.Ceded.{part_behind, records_behind}
use Rattle.kt_ri.specs.Reinsurance.{ceded_at, ceded_loss}

module _ (tree : Tree) (is : IsTree tree) (rule samples : ℕ) (records : List LossRecord) where
  abbrev below : Tree
  below = struck tree (ids_of records)

  -- what an id cedes is what it did
  ceded-same : (id : ℕ) (sidx : ℤ) → ceded_at below rule records id sidx ≡ ceded_at tree rule records id sidx
  ceded-same id sidx =
      ap (λ losses. ceded_loss below losses rule id) (taken-struck tree is records sidx)
      ∙ (ap (λ (part : ℕ × ℕ → ℕ). sum_by part (layers_of below)) (fun_ext (λ (key : ℕ × ℕ). allocated-struck tree is (ids_of records) (taken_loss tree records sidx) (taken-quiet tree is records sidx) rule key.0 key.1 id))
      ∙ (sum_by-flat_map part layers_at (filter kept tree.tops)
      ∙ (sum_by-filter (λ top. sum_by part (layers_at top)) kept tree.tops
      ∙ (sum_by-agree _ (λ top. sum_by part (layers_at top)) tree.tops (each (λ top. by top (kept top) refl) tree.tops)
      ∙ sym (sum_by-flat_map part layers_at tree.tops)))))
    where
      part : ℕ × ℕ → ℕ
      part key = part_of_id tree (taken_loss tree records sidx) rule key.0 key.1 id

      layers_at : ℕ → List (ℕ × ℕ)
      layers_at top = map (λ layer. (top, layer)) (tree.layers top)

      kept : ℕ → Bool
      kept = is_struck tree (ids_of records) tree.top_level

      none_of : (top layer : ℕ) → is_struck tree (ids_of records) tree.top_level top ≡ false → part_of_id tree (taken_loss tree records sidx) rule top layer id ≡ 0
      none_of top layer other =
          omega (
            arith,
            lookup-few (λ n. nat_eq id n) (beneath tree top) (allocated tree (taken_loss tree records sidx) rule top layer),
            allocated-sum tree is (taken_loss tree records sidx) top layer rule,
            policy_loss-none tree is (ids_of records) (taken_loss tree records sidx) (taken-quiet tree is records sidx) top layer other,
          )

      none : (top : ℕ) → is_struck tree (ids_of records) tree.top_level top ≡ false → (layers : List ℕ) → 0 ≡ sum_by part (map (λ layer. (top, layer)) layers)
      none top other [] = refl
      none top other (layer ∷ layers) = omega (arith, sum_by-cons part (top, layer) (map (λ layer. (top, layer)) layers), none_of top layer other, none top other layers)

      by : (top : ℕ) (b : Bool) → kept top ≡ b → cond b (sum_by part (layers_at top)) 0 ≡ sum_by part (layers_at top)
      by top true here = refl
      by top false other = none top other (tree.layers top)

  -- the net and the ceded records are those by the whole tree
  pub behind-struck : (left : Bool) → records_behind left below rule samples records ≡ records_behind left tree rule samples records
  behind-struck left = ap (λ made. filter_map made records) (fun_ext (λ (entry : LossRecord). ap (λ (loss : ℤ → ℕ). record_with entry.event entry.id (pairs_of loss (insured_range samples))) (fun_ext (λ (sidx : ℤ). ap (part_behind left (loss_of sidx entry.pairs)) (ceded-same entry.id sidx)))))
