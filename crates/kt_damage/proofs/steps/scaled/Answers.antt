use Rattle.std.proofs.Common.{refl, arith}
use Rattle.kt_damage.proofs.StepLemmas.{scaled_fits}
use Rattle.kt_damage.proofs.steps.scaled.Goals as goal

pub overflow_add-result : goal.overflow_add-result
overflow_add-result c =
    let part = c.from-wide.ensures in
    let whole = c.from-whole.ensures in
    let some = c.requires.some in
    let within = c.requires.within in
    let fits = scaled_fits c.from-wide.result c.from-whole.result _ _ _ (omega arith) (omega arith) refl refl refl in
    omega arith
