use Rattle.std.proofs.Common.{◌<◌, length, arith}
use Rattle.kt_lanes.proofs.IdLemmas.{found-fits, more-found}
use Rattle.kt_lanes.proofs.by_id.add_at.Goals as goal

pub add_amounts-requires-clause-few : goal.add_amounts-requires-clause-few
add_amounts-requires-clause-few g c =
    let inside : c.args.place < length c.args.found.now = omega (arith, c.requires.within, c.requires.same) in
    found-fits c.args.place (g.A.Amounts.width c.args.more.now) c.args.found.now (g.A.Amounts.amount c.args.more.now) c.requires.wide inside (λ k less. c.requires.few k c.args.place less c.requires.within)

pub returns : goal.returns
returns g c =
    let inside : c.args.place < length c.args.found.now = omega (arith, c.requires.within, c.requires.same) in
    record { value = more-found c.args.place (g.A.Amounts.width c.args.more.now) c.args.found.now (g.A.Amounts.amount c.args.more.now) c.requires.wide inside c.args.ids.now c.requires.rising c.args.id c.requires.same c.requires.here c.add_amounts.new.self c.add_amounts.ensures.value }
