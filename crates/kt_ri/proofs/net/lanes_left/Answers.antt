use Rattle.std.proofs.Common.{◌∙◌, ◌+◌, List, Option, ℕ, length, ap, subst, sym}
use Rattle.std.specs.Prelude.{All}
use Rattle.std.proofs.lemmas.Result.{IfOk-weaker}
use Rattle.kt_lanes.specs.Lanes.{AreWide}
use Rattle.kt_runs.specs.LaneRun.{LaneRun}
use Rattle.kt_runs.specs.Less.{IsPlaceIn, records_less}
use Rattle.kt_ri.specs.Ceding.{AreRecordPlaces}
use Rattle.kt_ri.proofs.NetLemmas.{less-behind, places-inside, places-many}
use Rattle.kt_ri.proofs.net.lanes_left.Goals as goal

pub less-requires-clause-places : goal.less-requires-clause-places
less-requires-clause-places c = ap (λ (places : List (Option ℕ)). length places) c.deref.ensures.value ∙ places-many c.ids.result.now c.args.losses.records c.in_ok-places.places.items c.in_ok-places.ensures.value

pub less-requires-clause-within : goal.less-requires-clause-within
less-requires-clause-within c =
    let found = subst (λ (ids : List ℕ). AreRecordPlaces ids c.args.losses.records c.in_ok-places.places.items) c.ids.ensures.value c.in_ok-places.ensures.value in
    subst (All (IsPlaceIn c.args.ceded.now)) (sym c.deref.ensures.value) (places-inside c.args.stage.now.ids c.args.samples c.args.ceded.now c.requires.rows c.args.losses.records c.in_ok-places.places.items found)

pub less-requires-clause-wide : goal.less-requires-clause-wide
less-requires-clause-wide c = subst (λ (rows : ℕ). AreWide rows c.args.ceded.now) (sym c.requires.has_rows) c.requires.rows.each

pub returns-clause-value : goal.returns-clause-value
returns-clause-value c =
    let ceded = c.args.ceded.now in
    let records = c.args.losses.records in
    let found = subst (λ (ids : List ℕ). AreRecordPlaces ids records c.in_ok-places.places.items) c.ids.ensures.value c.in_ok-places.ensures.value in
    IfOk-weaker c.less.result _ _
    (λ (made : LaneRun) left tree rule is are.
    left
    ∙ (ap (λ (rows : ℕ). records_less rows ceded records c.deref.result.now) c.requires.has_rows
    ∙ (ap (records_less (c.args.samples + 1) ceded records) c.deref.ensures.value ∙ less-behind tree c.args.stage.now is rule c.args.samples records ceded are records c.in_ok-places.places.items found)))
    c.less.ensures.records
