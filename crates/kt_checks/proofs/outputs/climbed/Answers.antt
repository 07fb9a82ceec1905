use Rattle.std.proofs.Common.{◌≡◌, ◌+◌, ◌-◌, ◌<◌, ap, sym, ◌∙◌, Some, arith}
use Rattle.kt_keys.specs.UnitTable.{value_of}
use Rattle.kt_keys.specs.Climbing.{climbed, after}
use Rattle.kt_checks.proofs.OutputLemmas.{climbed-step}
use Rattle.kt_checks.proofs.outputs.climbed.Goals as goal

pub loop-below-preserved : goal.loop-below-preserved
loop-below-preserved c =
    let next = value_of c.args.next.now in
    let below = c.loop-below.below in
    let h : below < c.args.levels = omega arith in
    let found : next (below + 1, c.loop-below.unit) ≡ Some c.in_ok-unit.unit = sym c.of.ensures.value ∙ c.in_ok-unit.was in
    sym (climbed-step next c.args.levels below c.loop-below.unit h ∙ ap (λ o. after o (climbed next (c.args.levels - (below + 1)) (below + 1 + 1))) found) ∙ c.loop-below.invariant
