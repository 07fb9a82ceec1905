use Rattle.std.proofs.Common.{◌<◌, List, ℕ, length, sym, subst}
use Rattle.std.specs.Prelude.{All}
use Rattle.std.proofs.lemmas.Result.{IfOk-weaker}
use Rattle.kt_levels.specs.Shares.{layers_of}
use Rattle.kt_levels.specs.TableLaws.{table-length}
use Rattle.kt_ri.proofs.CededLemmas.{run-ceded, run-fits, run-rows}
use Rattle.kt_ri.proofs.ceded.ceded_of.Goals as goal

pub ceded_lanes-requires-clause-rows : goal.ceded_lanes-requires-clause-rows
ceded_lanes-requires-clause-rows g c =
    let kept = c.is_ceding.ensures.tree in
    table-length kept.tree c.args.rule c.args.samples (g.R.RunLosses.records_of c.args.run.now) (layers_of kept.tree) c.in_ok-table.table (c.in_ok-table.ensures.value kept.tree kept.is)

pub ceded_lanes-requires-clause-within : goal.ceded_lanes-requires-clause-within
ceded_lanes-requires-clause-within g c = subst (λ (ids : List ℕ). All (λ place. place < length ids) c.places.result.now) (sym c.ids.ensures.value) c.places.ensures.places.within

pub ceded_lanes-requires-clause-shares : goal.ceded_lanes-requires-clause-shares
ceded_lanes-requires-clause-shares g c =
    let kept = c.is_ceding.ensures.tree in
    run-fits kept.tree c.args.stage.now kept.is c.is_ceding.ensures.few c.ids.result.now c.ids.ensures.value c.places.result.now c.places.ensures.places c.args.rule c.args.samples c.requires.rule (g.R.RunLosses.records_of c.args.run.now) c.requires.within c.in_ok-table.table (c.in_ok-table.ensures.value kept.tree kept.is)

pub returns-clause-rows : goal.returns-clause-rows
returns-clause-rows g c =
    let kept = c.is_ceding.ensures.tree in
    IfOk-weaker c.ceded_lanes.result _ _
    (λ (ceded : List (List ℕ)).
    run-rows kept.tree c.args.stage.now kept.is c.is_ceding.ensures.few c.ids.result.now c.ids.ensures.value c.places.result.now c.places.ensures.places c.args.rule c.args.samples c.requires.rule (g.R.RunLosses.records_of c.args.run.now) c.requires.within c.in_ok-table.table (c.in_ok-table.ensures.value kept.tree kept.is) ceded)
    c.ceded_lanes.ensures.value

pub returns-clause-value : goal.returns-clause-value
returns-clause-value g c =
    IfOk-weaker c.ceded_lanes.result _ _
    (λ (ceded : List (List ℕ)) made tree is.
    run-ceded tree c.args.stage.now is c.is_ceding.ensures.few c.ids.result.now c.ids.ensures.value c.places.result.now c.places.ensures.places c.args.rule c.args.samples c.requires.rule (g.R.RunLosses.records_of c.args.run.now) c.requires.within c.in_ok-table.table (c.in_ok-table.ensures.value tree is) ceded made)
    c.ceded_lanes.ensures.value
