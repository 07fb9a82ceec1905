use Rattle.std.proofs.Common.{◌<◌, ◌≤◌, ◌∙◌, ◌++◌, ◌∷◌, ℕ, List, [], length, map, take, ap, sym, arith}
use Rattle.std.proofs.lemmas.List.{get_or-map, length-map, take_all, take_more}
use Rattle.kt_runs.specs.HeldLaws.{entry_at}
use Rattle.kt_stream.specs.declared.entry.LossRecord.{LossRecord}
use Rattle.kt_runs.specs.Records.{ids_of}
use Rattle.kt_runs.proofs.losses.ids_of.Goals as goal

pub loop-held-preserved : goal.loop-held-preserved
loop-held-preserved g c =
    let entry_of = g.T.RunEntry.entry_of in
    let entries = map entry_of c.args.records.now in
    let entry = c.entry.result.now in
    let place = c.loop-held.held-index in
    let below : place < length entries = omega (arith, c.loop-held-test.true, length-map c.args.records.now entry_of) in
    let inside : place < length (ids_of entries) = omega (arith, below, length-map entries (λ (one : LossRecord). one.id)) in
    let is = entry_at entry_of c.args.records.now place c.held-item.result entry c.loop-held-test.true c.held-item.is c.entry.ensures entry in
    c.in_ok-push.ensures.items
    ∙ (ap (λ (ids : List ℕ). ids ++ entry.id ∷ []) c.loop-held.invariant
    ∙ (ap (λ id. take place (ids_of entries) ++ id ∷ []) (ap (λ (one : LossRecord). one.id) is ∙ sym (get_or-map (λ (one : LossRecord). one.id) entries place entry 0 below))
    ∙ sym (take_more (ids_of entries) place 0 inside)))

pub returns : goal.returns
returns g c =
    let entry_of = g.T.RunEntry.entry_of in
    let entries = map entry_of c.args.records.now in
    let long : length (ids_of entries) ≤ c.loop-held.held-index = omega (arith, length-map entries (λ (one : LossRecord). one.id), length-map c.args.records.now entry_of) in
    record { value = c.loop-held.invariant ∙ take_all c.loop-held.held-index (ids_of entries) long }
