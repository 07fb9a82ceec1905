use Rattle.std.proofs.Common.{◌∙◌, Option, sym, subst}
use Rattle.std.specs.Prelude.{IfSome}
use Rattle.kt_tables.specs.declared.place.Place.{Place}
use Rattle.kt_load.proofs.SpanLemmas.{Joins, joins, takes_joined}
use Rattle.kt_load.proofs.spans.next_span.Goals as goal

pub returns-in-Some-joined-clause-value : goal.returns-in-Some-joined-clause-value
returns-in-Some-joined-clause-value g c =
    let size = c.args.portfolio.now.rows.footprint_size in
    let place = c.in-Some.place in
    takes_joined (g.I.Inputs.state c.args.inputs.now).held c.args.portfolio.now.rows c.args.event c.args.rows.now.items c.args.span size place c.in-Some-joined.longer
    (sym c.in-Some.is ∙ c.place_in_file.ensures.value)
    (subst (λ (r : Option Place). IfSome r (Joins size c.args.span place)) (sym c.joined.ensures.exact ∙ c.in-Some-joined.is) (joins size c.args.span place c.requires.span c.in-Some.ensures.within))
