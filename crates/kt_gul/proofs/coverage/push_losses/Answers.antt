use Rattle.std.proofs.Common.{arith, refl}
use Rattle.kt_gul.proofs.coverage.push_losses.Goals as goal

pub push_plain-requires-clause-plain : goal.push_plain-requires-clause-plain
push_plain-requires-clause-plain g c = λ asked place later below. omega (arith, c.if-passes.ensures.within refl asked place (omega (arith, c.requires.totals.width_is)), c.requires.totals.each place below)

pub returns : goal.returns
returns g c = record { takes = c.push_plain.ensures.takes; ok = c.push_plain.ensures.ok; front = c.push_plain.ensures.front }

pub returns-then-passes : goal.returns-then-passes
returns-then-passes g c = record { takes = c.push_cut.ensures.takes; ok = c.push_cut.ensures.ok; front = c.push_cut.ensures.front }
