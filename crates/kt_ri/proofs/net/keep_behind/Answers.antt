use Rattle.std.proofs.Common.{◌++◌, ◌∙◌, ℕ, List, [], length, slice_index, slice_index_or, ap, subst}
use Rattle.std.specs.List.{cons_option}
use Rattle.kt_stream.specs.declared.entry.LossRecord.{LossRecord}
use Rattle.kt_stream.specs.declared.entry.Pair.{Pair}
use Rattle.kt_runs.specs.Records.{record_with}
use Rattle.kt_runs.specs.LaneRows.{pairs_by_row}
use Rattle.kt_ri.specs.Ceding.{IsPlaceOf}
use Rattle.kt_ri.proofs.NetLemmas.{behind-are, lane-behind}
use Rattle.kt_ri.proofs.net.keep_behind.Goals as goal

pub returns-clause-ok : goal.returns-clause-ok
returns-clause-ok g c = λ d tree rule records is are.
    let entry : LossRecord = slice_index_or (g.R.RunLosses.records_of c.args.run.now) c.args.at d in
    let place = c.place_near-place.result in
    let before = c.args.made.now.records in
    let own = pairs_by_row (slice_index c.take_behind.new.losses) (length c.take_behind.new.losses) in
    let found = subst (λ (ids : List ℕ). IsPlaceOf ids entry.id place) c.ids.ensures.value (subst (λ (id : ℕ). IsPlaceOf c.ids.result.now id place) (c.id_at-id.ensures.value d) c.place_near-place.ensures.value) in
    let pairs = lane-behind c.args.samples entry.pairs c.args.ceded.now place c.args.left c.take_at.new.lane c.take_behind.new.losses (c.take_at.ensures.value d) c.take_behind.ensures.value in
    c.in_ok-put.ensures.ok
    ∙ (ap (λ (event : ℕ). before ++ cons_option (record_with event c.id_at-id.result own) []) (c.event_at.ensures.value d)
    ∙ (ap (λ (id : ℕ). before ++ cons_option (record_with entry.event id own) []) (c.id_at-id.ensures.value d)
    ∙ ap (λ (pairs : List Pair). before ++ cons_option (record_with entry.event entry.id pairs) []) (pairs ∙ behind-are tree c.args.stage.now is rule c.args.samples records c.args.ceded.now are entry.id place found c.args.left entry.pairs)))
