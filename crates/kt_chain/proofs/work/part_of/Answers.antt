use Rattle.std.proofs.Common.{◌≡◌, ◌∙◌, ◌+◌, ◌*◌, List, ℕ, min, ap, subst}
use Rattle.std.specs.Prelude.{IfOk}
use Rattle.kt_event.specs.Plan.{terms_of}
use Rattle.kt_load.specs.EventRows.{EventRows}
use Rattle.kt_chain.specs.Rounds.{part_of}
use Rattle.kt_chain.proofs.RowLemmas.{between_places}
use Rattle.kt_chain.proofs.work.part_of.Goals as goal

pub returns-clause-value : goal.returns-clause-value
returns-clause-value c =
    let given = c.args.given.now in
    let batch = c.args.batch in
    let part = c.args.part in
    subst (λ (events : List EventRows). IfOk c.part_between.result (λ made. made ≡ part_of (terms_of c.args.plan.now) c.args.portfolio.now.rows events))
    (between_places given batch part c.places_of-first.result.0 c.places_of-first.result.1 c.places_of-first.ensures.first
    (c.places_of-first.ensures.behind ∙ ap (λ (n : ℕ). min n (part * batch + batch)) c.count.ensures.value))
    c.part_between.ensures.value
