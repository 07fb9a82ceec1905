use Rattle.std.proofs.Common.{◌≡◌, ◌+◌, ◌-◌, ℕ, List, arith, refl, subst, sym}
use Rattle.kt_levels.specs.Climbed.{AreLevel}
use Rattle.kt_levels.specs.ClimbedLaws.{levels-more}
use Rattle.kt_levels.proofs.climbing.push_level.Goals as goal

pub overflow_sub-level : goal.overflow_sub-level
overflow_sub-level c = omega (arith, c.requires.levels.count_is)

pub lanes_at-below-requires : goal.lanes_at-below-requires
lanes_at-below-requires c = omega (arith, c.requires.levels.count_is)

pub next_lanes-requires-clause-level : goal.next_lanes-requires-clause-level
next_lanes-requires-clause-level c = omega (arith, c.requires.levels.count_is, c.requires.level)

pub next_lanes-requires-clause-below : goal.next_lanes-requires-clause-below
next_lanes-requires-clause-below c =
    subst (λ (row : List (List ℕ)). AreLevel c.args.programme.now c.args.lanes.now c.args.width (c.args.level - 1) row) (sym c.lanes_at-below.ensures.value)
    (c.requires.levels.each (c.args.level - 1) (omega (arith, c.requires.levels.count_is)))

pub returns : goal.returns
returns c =
    let next : c.args.level - 1 + 1 ≡ c.args.level = omega (arith, c.requires.levels.count_is) in
    record {
      levels =
          levels-more c.args.programme.now c.args.lanes.now c.args.width c.args.level c.args.levels.now _ c.in_ok-row.row c.requires.levels refl c.in_ok-push.ensures.items
          (subst (λ (n : ℕ). AreLevel c.args.programme.now c.args.lanes.now c.args.width n c.in_ok-row.row) next c.in_ok-row.ensures.value);
    }
