use Rattle.std.proofs.Common.{◌≡◌, ◌∙◌, List, All, length, map, ap, sym, subst, arith}
use Rattle.kt_load.specs.EventRows.{OnFootprint, event_with_rows, ids_of}
use Rattle.kt_load.specs.Spans.{LiesAmong, rows_held}
use Rattle.kt_load.specs.declared.held_rows.HeldRows.{HeldRows}
use Rattle.kt_load.proofs.HoldLemmas.{ids_held, lie_among, rows_known}
use Rattle.kt_load.proofs.round_rows.RoundRows.fill.Goals as goal

pub invariant_of-self-2 : goal.invariant_of-self-2
invariant_of-self-2 g c =
    let count = length c.read_rows.new.rows.items in
    subst (All (LiesAmong count)) (sym c.hold.ensures.value)
    (lie_among c.args.portfolio.now.rows count 0 c.args.events.now (omega (arith, c.in_ok-read_rows.ensures.value.counted)))

pub returns-clause-events : goal.returns-clause-events
returns-clause-events g c =
    let all = c.read_rows.new.rows.items in
    ap (λ (held : List HeldRows). ids_of (map (rows_held all) held)) c.hold.ensures.value ∙ ids_held c.args.portfolio.now.rows all 0 c.args.events.now

pub returns-clause-value : goal.returns-clause-value
returns-clause-value g c =
    let rows = c.args.portfolio.now.rows in
    let all = c.read_rows.new.rows.items in
    let files = (g.I.Inputs.state c.args.inputs.now).held in
    subst (λ (held : List HeldRows). OnFootprint files (λ bytes. map (rows_held all) held ≡ map (event_with_rows rows bytes) c.args.events.now)) (sym c.hold.ensures.value)
    (rows_known rows files c.args.events.now all c.in_ok-read_rows.ensures.value)
