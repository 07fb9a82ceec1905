use Rattle.std.proofs.Common.{ap, ◌∙◌, ◌*◌, arith}
use Rattle.std.proofs.lemmas.Grind.{common_steps}
use Rattle.std.proofs.Common.{◌≡◌, ◌≤◌, get_or, length}
use Rattle.kt_rec.specs.declared.hazard.Vulnerability.{Vulnerability}
use Rattle.kt_model.proofs.AddLemmas.{each_more, total_more_row}
use Rattle.kt_model.proofs.chances.add_damages.Goals as goal

pub loop-damage-preserved : goal.loop-damage-preserved
loop-damage-preserved c =
    let none : Vulnerability = record { vulnerability_id = 0; intensity_bin_id = 0; damage_bin_id = 0; prob = 0 } in
    let damages = c.args.damages.now in
    let i = c.loop-damage.damage-index in
    let range = c.requires.bins i none c.loop-damage-test.true in
    let most : (get_or damages i none).damage_bin_id ≤ length c.loop-damage.chances = omega (arith, range.1) in
    let amount : c.from.result * c.from-in-loop-damage.result ≡ c.args.prob * (get_or damages i none).prob = ap (λ n. n * c.from-in-loop-damage.result) c.from.ensures ∙ ap (λ n. c.args.prob * n) c.from-in-loop-damage.ensures in
    record {
      each = λ bin within. each_more c.loop-damage.chances damages i none c.args.prob _ c.loop-damage-test.true range.0 most amount bin _ (c.loop-damage.invariant.each bin within);
      total = total_more_row c.loop-damage.chances damages i none c.args.prob _ c.loop-damage-test.true range.0 most amount _ c.loop-damage.invariant.total;
    }

pub overflow_sub-chances : goal.overflow_sub-chances
overflow_sub-chances c = grind (arith, common_steps)

pub overflow_mul-chances : goal.overflow_mul-chances
overflow_mul-chances c = grind (arith, common_steps)

pub overflow_add-chances : goal.overflow_add-chances
overflow_add-chances c = grind (arith, common_steps)

pub loop-damage-init : goal.loop-damage-init
loop-damage-init c = grind (arith, common_steps)

pub returns : goal.returns
returns c = grind (arith, common_steps)
