use Rattle.std.proofs.Common.{◌∙◌, ◌++◌, ◌∷◌, ℕ, List, [], length, map, slice_index, ap, sym}
use Rattle.std.specs.List.{cons_option}
use Rattle.std.proofs.lemmas.List.{map_push}
use Rattle.kt_stream.specs.declared.entry.LossRecord.{LossRecord}
use Rattle.kt_stream.specs.declared.entry.Pair.{Pair}
use Rattle.kt_runs.specs.LossLanes.{lane_record}
use Rattle.kt_levels.specs.Row.{Shared}
use Rattle.kt_runs.specs.Records.{record_with}
use Rattle.kt_levels.specs.Table.{row_at}
use Rattle.kt_runs.specs.LaneRows.{pairs_by_row}
use Rattle.kt_levels.specs.TableLosses.{share_record}
use Rattle.kt_levels.specs.TableRun.{TableRun}
use Rattle.kt_runs.specs.declared.heads.LossHead.{LossHead}
use Rattle.kt_runs.proofs.LossLanesLemmas.{record-some}
use Rattle.kt_levels.proofs.TableLemmas.{lane-pairs}
use Rattle.kt_levels.proofs.table_losses.TableLosses.keep.Goals as goal

pub returns-clause-ok : goal.returns-clause-ok
returns-clause-ok c =
    let kept = c.self.inside in
    let table = kept.table in
    let heads = kept.heads.items in
    let event = c.args.event in
    let id = c.args.id in
    let place = c.args.place in
    let lane = c.shares.result.now in
    let head : LossHead = record { event = event; id = id; deviation = 0; place = place } in
    let before = map (share_record table) heads in
    ap (map (share_record table)) c.in_ok-push.ensures.items
    ∙ (map_push (share_record table) heads head
    ∙ (ap (λ (one : List ℕ). before ++ lane_record head one ∷ []) (sym c.shares.ensures.value)
    ∙ (ap (λ (more : List LossRecord). before ++ more) (record-some event id (pairs_by_row (slice_index lane) (length lane)) (c.has_loss.ensures.some c.if-not-has_loss.false))
    ∙ (ap (λ (pairs : List Pair). before ++ cons_option (record_with event id pairs) []) (lane-pairs (λ (row : Shared). slice_index row.shares place) table lane c.shares.ensures.value)
    ∙ ap (λ (run : TableRun). run.records ++ cons_option (record_with event id (pairs_by_row (λ row. slice_index (row_at run.table row).shares place) (length run.table))) []) c.self.view_is))))
