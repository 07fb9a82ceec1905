use Rattle.std.proofs.Common.{◌<◌, ◌+◌, ◌^◌, length, slice_index, sym, subst}
use Rattle.kt_runs.specs.RunLosses.{loss_of}
use Rattle.kt_runs.specs.Sidx.{sidx_at}
use Rattle.kt_rec.specs.ById.{with_more}
use Rattle.kt_lanes.specs.Lanes.{AreLanes, column}
use Rattle.kt_runs.specs.LaneRows.{row_place}
use Rattle.kt_runs.proofs.losses.add_record.Goals as goal

pub add_amounts_by_id-requires-clause-few : goal.add_amounts_by_id-requires-clause-few
add_amounts_by_id-requires-clause-few c =
    λ row place less within.
    subst (λ pairs. slice_index (column row c.args.lanes.now) place + loss_of (sidx_at (row_place row)) pairs < 2 ^ 64) (sym c.as_slice-pairs.ensures.value) (c.requires.few row place less within)

pub returns : goal.returns
returns c =
    let ids = c.args.ids.now in
    let entry = c.args.entry.now in
    record {
      value =
          subst (λ pairs. AreLanes (c.args.samples + 1) (length ids) (λ row. with_more ids (column row c.args.lanes.now) entry.id (loss_of (sidx_at (row_place row)) pairs)) c.add_amounts_by_id.new.found) c.as_slice-pairs.ensures.value c.add_amounts_by_id.ensures.value;
    }
