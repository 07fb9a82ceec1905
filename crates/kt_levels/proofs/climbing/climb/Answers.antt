use Rattle.std.proofs.Common.{◌<◌, ℕ, List, All, arith, length, refl, subst, sym}
use Rattle.kt_levels.specs.ClimbedLaws.{leaves-level, levels-one}
use Rattle.kt_levels.proofs.climbing.climb.Goals as goal

pub leaves_of-requires-clause-places : goal.leaves_of-requires-clause-places
leaves_of-requires-clause-places c =
    let tree = c.is_of_a_tree.ensures.kept.is in
    subst (λ (places : List ℕ). All (λ place. place < length c.args.lanes.now) places) (sym c.leaves.ensures.value)
    (subst (λ n. All (λ place. place < n) c.args.programme.now.leaves) (sym c.requires.losses.count_is) tree.leaves_within)

pub leaves_of-requires-clause-wide : goal.leaves_of-requires-clause-wide
leaves_of-requires-clause-wide c = c.requires.losses.wide

pub loop-level-init : goal.loop-level-init
loop-level-init c =
    levels-one c.args.programme.now c.args.lanes.now c.args.width _ c.in_ok-rows.ensures.items
    (leaves-level c.args.programme.now c.is_of_a_tree.ensures.kept c.args.width c.args.lanes.now c.requires.losses _ c.leaves.result.now c.leaves.ensures.value c.in_ok-leaves.ensures.value)

pub loop-level-preserved : goal.loop-level-preserved
loop-level-preserved c = c.in_ok-push_level.ensures.levels

pub returns-clause-width : goal.returns-clause-width
returns-clause-width c = refl

pub returns-clause-value : goal.returns-clause-value
returns-clause-value c = record {
  losses = c.requires.losses;
  plain = c.requires.plain;
  enough = omega (arith, c.loop-level.invariant.count_is, c.loop-level-test.false, c.depth-level-end.ensures.value);
  rows = λ level below. c.loop-level.invariant.each level (omega (arith, below, c.loop-level-test.false, c.depth-level-end.ensures.value));
}
