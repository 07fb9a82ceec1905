use Rattle.std.proofs.Common.{◌++◌, ◌∙◌, ℕ, List, [], ap, arith, length, slice_index, subst}
use Rattle.std.specs.List.{cons_option, flat_map}
use Rattle.kt_stream.specs.Losses.{loss_bytes}
use Rattle.kt_stream.specs.declared.entry.Pair.{Pair}
use Rattle.kt_runs.specs.Records.{record_with}
use Rattle.kt_ri.specs.Ceding.{IsPlaceOf}
use Rattle.kt_ri.specs.Left.{pairs_left}
use Rattle.kt_ri.proofs.LeftLemmas.{left-are}
use Rattle.kt_ri.proofs.SidxRowLemmas.{pairs-few}
use Rattle.kt_ri.proofs.written.put_left.Goals as goal

pub write_left-used-requires-clause-room : goal.write_left-used-requires-clause-room
write_left-used-requires-clause-room c = omega (arith, c.requires.room, ap length c.as_slice.ensures.value, pairs-few c.args.samples c.args.entry.now.pairs c.requires.entry.pairs)

pub returns-clause-begins : goal.returns-clause-begins
returns-clause-begins c = (_, c.in_ok-put_pairs.ensures.ok _ c.write_left-used.ensures.value)

pub returns-clause-ok : goal.returns-clause-ok
returns-clause-ok c = λ tree rule records is are.
    let entry = c.args.entry.now in
    let lane = c.ceded_lane-lane.result.now in
    let place = c.place_near-place.result in
    let found = subst (λ (ids : List ℕ). IsPlaceOf ids entry.id place) c.ids.ensures.value c.place_near-place.ensures.value in
    let left = ap (pairs_left (slice_index lane)) c.as_slice.ensures.value ∙ left-are tree c.args.stage.now is rule c.args.samples records c.args.ceded.now are entry.id place found lane c.ceded_lane-lane.ensures.value entry.pairs c.requires.entry.pairs in
    c.in_ok-put_pairs.ensures.ok (pairs_left (slice_index lane) c.as_slice.result.now) c.write_left-used.ensures.value
    ∙ ap (λ (pairs : List Pair). c.args.out.now ++ flat_map loss_bytes (cons_option (record_with entry.event entry.id pairs) [])) left
