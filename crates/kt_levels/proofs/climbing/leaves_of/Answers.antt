use Rattle.std.proofs.Common.{◌∙◌, ap}
use Rattle.std.specs.List.{range_with_len}
use Rattle.kt_levels.specs.ClimbedLaws.{lanes-in-turn}
use Rattle.kt_levels.proofs.climbing.leaves_of.Goals as goal

pub returns-then-are_in_turn : goal.returns-then-are_in_turn
returns-then-are_in_turn c = record {
  value = lanes-in-turn c.args.width c.args.places.now c.args.lanes.now c.requires.wide (c.are_in_turn.ensures.value c.if-are_in_turn.true ∙ ap (range_with_len 0) c.len.ensures.value);
}
