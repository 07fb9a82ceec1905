use Rattle.std.proofs.Common.{◌∙◌, ◌≤◌, ◌^◌, true, arith}
use Rattle.std.proofs.lemmas.Result.{IfOk-weaker}
use Rattle.kt_fmtree.specs.AllocateLaws.{beneath-rises, leaves-places, whole-parts-few, losses-are}
use Rattle.kt_fmtree.proofs.allocation.losses_beneath.Goals as goal

pub parts_by_id-requires-clause-rising : goal.parts_by_id-requires-clause-rising
parts_by_id-requires-clause-rising c = beneath-rises c.args.programme.now c.args.levels.now c.requires.levels c.args.node c.requires.node c.beneath.result.now c.beneath.ensures.value

pub parts_by_id-requires-clause-places : goal.parts_by_id-requires-clause-places
parts_by_id-requires-clause-places c =
    let none : 0 ≤ 10 ^ 16 = omega arith in
    leaves-places c.args.programme.now c.args.levels.now c.requires.levels true c.args.node 0 c.requires.node none c.deref.result.now (c.deref.ensures.value ∙ c.in_ok-parts.ensures.value)

pub parts_by_id-requires-clause-few : goal.parts_by_id-requires-clause-few
parts_by_id-requires-clause-few c = whole-parts-few c.args.programme.now c.args.levels.now c.requires.levels c.args.node c.requires.node c.deref.result.now (c.deref.ensures.value ∙ c.in_ok-parts.ensures.value)

pub returns : goal.returns
returns c = record {
  value = IfOk-weaker c.parts_by_id.result _ _ (λ losses known tree loss is are. losses-are c.args.programme.now c.args.levels.now c.requires.levels c.args.node c.requires.node tree loss is are c.deref.result.now c.beneath.result.now _ (c.deref.ensures.value ∙ c.in_ok-parts.ensures.value) c.beneath.ensures.value known) c.parts_by_id.ensures.value;
}
