-- The losses of a run by the places of their ids.
use Rattle.std.proofs.Common.{◌≡◌, ℕ, ◌+◌, ◌<◌, ◌≤◌, ◌^◌, cond, nat_eq, ℤ, List, [], ◌∷◌, length, map, take, replicate, slice_index, slice_index_or, refl, sym, ap, subst, ◌∙◌, arith}
use Rattle.std.proofs.lemmas.List.{get_or-map, take_all}
use Rattle.std.proofs.lemmas.List.Sums.{get_or-le-sum_by, sum_by_more, sum_by-take-le}
use Rattle.kt_rec.specs.ById.{with_more}
use Rattle.kt_rec.specs.ListLaws.{cond-le}
use Rattle.kt_rec.specs.Sums.{sum_by-below}
use Rattle.kt_stream.specs.declared.entry.LossRecord.{LossRecord}
use Rattle.kt_lanes.specs.Lanes.{AreLanes, column}
use Rattle.kt_runs.specs.LaneRows.{row_place}
use Rattle.kt_runs.specs.Records.{id_loss}
use Rattle.kt_runs.specs.RunLosses.{AreWithin, loss_of, run_loss}
use Rattle.kt_runs.specs.Sidx.{sidx_at}
use Rattle.kt_runs.specs.Taken.{AreIdLanes}

-- no records have no loss
pub ids-start : (ids : List ℕ) (samples : ℕ) (lanes : List (List ℕ)) → AreLanes (samples + 1) (length ids) (λ row. replicate (length ids) 0) lanes → AreIdLanes ids samples [] lanes
ids-start ids samples lanes are = record { count_is = are.count_is; wide = are.wide; each = λ row below. are.each row below ∙ none (sidx_at (row_place row)) ids }
  where
    none : (sidx : ℤ) (ids : List ℕ) → replicate (length ids) 0 ≡ map (id_loss [] sidx) ids
    none sidx [] = refl
    none sidx (id ∷ ids) = ap (λ rest. 0 ∷ rest) (none sidx ids)

-- what an id has is not more than all
id-le : (records : List LossRecord) (sidx : ℤ) (id : ℕ) → id_loss records sidx id ≤ run_loss sidx records
id-le records sidx id = sum_by-below (λ (entry : LossRecord). cond (nat_eq entry.id id) (loss_of sidx entry.pairs) 0) (λ (entry : LossRecord). loss_of sidx entry.pairs) records (λ entry. cond-le (nat_eq entry.id id) (loss_of sidx entry.pairs))

module _ (ids : List ℕ) (samples : ℕ) (records : List LossRecord) (i : ℕ) (d entry : LossRecord) (below : i < length records) (is : entry ≡ slice_index_or records i d) (lanes : List (List ℕ)) (so_far : AreIdLanes ids samples (take i records) lanes) where
  -- the next record fits
  pub ids-fit : AreWithin records → (row place : ℕ) → row < samples + 1 → place < length ids → slice_index (column row lanes) place + loss_of (sidx_at (row_place row)) entry.pairs < 2 ^ 64
  ids-fit within row place inside here =
      let sidx = sidx_at (row_place row) in
      omega (
        arith,
        ap (λ all. slice_index all place) (so_far.each row inside),
        get_or-map (id_loss (take i records) sidx) ids place 0 0 here,
        id-le (take i records) sidx (slice_index ids place),
        sum_by-take-le (λ (one : LossRecord). loss_of sidx one.pairs) records i,
        get_or-le-sum_by (λ (one : LossRecord). loss_of sidx one.pairs) records i d below,
        ap (λ (one : LossRecord). loss_of sidx one.pairs) is,
        within sidx,
      )

  -- with it, its id has more
  pub ids-more : (more : List (List ℕ)) → AreLanes (samples + 1) (length ids) (λ row. with_more ids (column row lanes) entry.id (loss_of (sidx_at (row_place row)) entry.pairs)) more → AreIdLanes ids samples (take (i + 1) records) more
  ids-more more are = record {
    count_is = are.count_is;
    wide = are.wide;
    each = λ row inside.
        let sidx = sidx_at (row_place row) in
        are.each row inside ∙ (ap (λ all. with_more ids all entry.id (loss_of sidx entry.pairs)) (so_far.each row inside) ∙ each sidx ids);
  }
    where
      one : (sidx : ℤ) (id : ℕ) → id_loss (take i records) sidx id + cond (nat_eq entry.id id) (loss_of sidx entry.pairs) 0 ≡ id_loss (take (i + 1) records) sidx id
      one sidx id =
          ap (λ (one : LossRecord). id_loss (take i records) sidx id + cond (nat_eq one.id id) (loss_of sidx one.pairs) 0) is
          ∙ sym (sum_by_more (λ (one : LossRecord). cond (nat_eq one.id id) (loss_of sidx one.pairs) 0) records i d below)

      each : (sidx : ℤ) (ids : List ℕ) → with_more ids (map (id_loss (take i records) sidx) ids) entry.id (loss_of sidx entry.pairs) ≡ map (id_loss (take (i + 1) records) sidx) ids
      each sidx [] = refl
      each sidx (id ∷ ids) = λ at. one sidx id at ∷ each sidx ids at

-- all records
pub ids-end : (ids : List ℕ) (samples : ℕ) (records : List LossRecord) (i : ℕ) (lanes : List (List ℕ)) → length records ≤ i → AreIdLanes ids samples (take i records) lanes → AreIdLanes ids samples records lanes
ids-end ids samples records i lanes past are = subst (λ (all : List LossRecord). AreIdLanes ids samples all lanes) (take_all i records past) are
