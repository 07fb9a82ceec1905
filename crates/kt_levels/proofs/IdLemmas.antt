-- The losses of a run by the places of their ids.
use Rattle.std.proofs.Common.{◌≡◌, ℕ, ◌+◌, ◌<◌, ◌≤◌, ◌^◌, ◌||◌, Bool, true, false, cond, nat_eq, ℤ, List, [], ◌∷◌, length, map, take, replicate, slice_index, slice_index_or, refl, sym, ap, subst, ◌∙◌, arith, eqb-true}
use Rattle.std.specs.Cmp.{nat_eq_equiv}
use Rattle.std.specs.List.{list_any, sum}
use Rattle.std.proofs.Math.Path.{fun_ext}
use Rattle.std.proofs.lemmas.List.{get_or-map, take_all}
use Rattle.std.proofs.lemmas.List.Sums.{get_or-le-sum_by, sum_by_more, sum_by-take-le}
use Rattle.kt_stream.specs.declared.entry.LossRecord.{LossRecord}
use Rattle.kt_runs.specs.RunLosses.{AreWithin, loss_of, run_loss}
use Rattle.kt_runs.specs.Sidx.{sidx_at}
use Rattle.kt_rec.specs.ById.{with_more}
use Rattle.kt_rec.specs.Sums.{sum_by-below}
use Rattle.kt_fmtree.specs.Tree.{Tree}
use Rattle.kt_fmtree.specs.Carried.{loss_by}
use Rattle.kt_fmtree.specs.Parts.{Parts, IsProgramme}
use Rattle.kt_levels.specs.Climbed.{AreLosses}
use Rattle.kt_lanes.specs.Lanes.{AreLanes, column}
use Rattle.kt_levels.specs.Shares.{taken_loss}
use Rattle.kt_runs.specs.Records.{id_loss}
use Rattle.kt_levels.specs.SharesLaws.{ids-few}
use Rattle.kt_rec.specs.ListLaws.{cond-le}
use Rattle.kt_runs.specs.LaneRows.{row_place}
use Rattle.kt_runs.specs.Taken.{AreIdLanes}

-- ---- losses by id

-- amounts of ids are found by id
loss_by-map : (loss : ℕ → ℕ) (ids : List ℕ) (id : ℕ) → loss_by ids (map loss ids) id ≡ cond (list_any (nat_eq id) ids) (loss id) 0
loss_by-map loss [] id = refl
loss_by-map loss (first ∷ ids) id = ap (λ b. cond b (loss first) (loss_by ids (map loss ids) id)) (nat_eq_equiv.symm first id) ∙ by (nat_eq id first) refl (loss_by-map loss ids id)
  where
    by : (b : Bool) → nat_eq id first ≡ b → loss_by ids (map loss ids) id ≡ cond (list_any (nat_eq id) ids) (loss id) 0 → cond b (loss first) (loss_by ids (map loss ids) id) ≡ cond (b || list_any (nat_eq id) ids) (loss id) 0
    by true is rest = ap loss (sym (eqb-true id first is))
    by false is rest = rest

module _ (tree : Tree) (parts : Parts) (is : IsProgramme tree parts) (samples : ℕ) (records : List LossRecord) (lanes : List (List ℕ)) (are : AreIdLanes parts.ids samples records lanes) where
  -- they are what the tree takes
  pub taken-by : (row : ℕ) → row < samples + 1 → loss_by tree.ids (column row lanes) ≡ taken_loss tree records (sidx_at (row_place row))
  taken-by row below =
      ap (loss_by tree.ids) (are.each row below ∙ ap (map (id_loss records (sidx_at (row_place row)))) is.ids_are)
      ∙ fun_ext (loss_by-map (id_loss records (sidx_at (row_place row))) tree.ids)

  -- and can be carried up
  pub ids-losses : AreWithin records → AreLosses parts (samples + 1) lanes
  ids-losses within = record {
    some = omega arith;
    count_is = are.count_is;
    wide = are.wide;
    few = λ row below.
        let sidx = sidx_at (row_place row) in
        omega (arith, ap sum (are.each row below ∙ ap (map (id_loss records sidx)) is.ids_are), ids-few tree is.is records sidx, within sidx);
  }
