use Rattle.std.proofs.Common.{arith}
use Rattle.kt_damage.proofs.StepLemmas.{rise_least, rise_most}
use Rattle.kt_damage.proofs.steps.rise_of.Goals as goal

pub returns-clause-least : goal.returns-clause-least
returns-clause-least c = λ over within. rise_least c.args.slope c.scaled.result over c.args.unit c.scaled.ensures.least

pub returns-clause-most : goal.returns-clause-most
returns-clause-most c = λ over within.
    let some = c.if-slope-eq0.false in
    let short = c.requires.short (omega arith) in
    rise_most c.args.slope c.scaled.result over c.args.unit c.scaled.ensures.most (omega arith)
