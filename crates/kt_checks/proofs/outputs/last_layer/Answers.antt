use Rattle.std.proofs.Common.{◌≡◌, rules, arith, min, ap, subst, sym, ◌∙◌}
use Rattle.std.specs.List.{list_any}
use Rattle.std.proofs.lemmas.List.{take_all}
use Rattle.kt_keys.specs.Keys.{same_pair}
use Rattle.kt_checks.specs.OutputChecks.{EndsAt}
use Rattle.kt_checks.proofs.OutputLemmas.{greatest, greatest_ends}
use Rattle.kt_checks.proofs.outputs.last_layer.Goals as goal

pub returns : goal.returns
returns c =
    let layers = c.args.layers.now in
    let is : c.min.result ≡ min c.loop-pair.last 50 = search rules in
    record { value = subst (EndsAt (λ pair. list_any (same_pair pair) layers)) (sym is) (greatest_ends layers c.loop-pair.last (c.loop-pair.invariant ∙ ap (greatest 1) (take_all c.loop-pair.pair-index layers (omega (arith, c.loop-pair-test.false))))) }
