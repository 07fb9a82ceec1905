use Rattle.std.proofs.Common.{◌<◌, ◌∙◌, length, ap, sym, subst, arith}
use Rattle.std.specs.List.{All, flat_map}
use Rattle.kt_lanes.specs.Lanes.{AreWide}
use Rattle.kt_levels.specs.Down.{child_places}
use Rattle.kt_levels.specs.DownLaws.{given-are, given-placed}
use Rattle.kt_lanes.specs.BehindLaws.{behind-all}
use Rattle.kt_levels.proofs.down.level_by_unit.Goals as goal

pub place_children-requires-clause-within : goal.place_children-requires-clause-within
place_children-requires-clause-within c = subst (All (λ place. place < length c.args.nodes.now)) (sym c.deref.ensures.value) c.requires.can.within

pub place_children-requires-clause-fits : goal.place_children-requires-clause-fits
place_children-requires-clause-fits c = λ k d inside. (c.requires.can.can k d inside).within

pub push_given-requires-clause-out : goal.push_given-requires-clause-out
push_given-requires-clause-out c = subst (AreWide c.args.width) (sym c.clear.ensures.value) (λ k d below. absurd (omega arith))

pub returns-clause-given : goal.returns-clause-given
returns-clause-given c =
    given-placed c.args.width c.args.nodes.now c.args.below.now c.args.parts.now c.requires.can (record { places = c.place_children.new.places; lanes = c.push_given.new.out }) (c.in_ok-place_children.ensures.value ∙ ap (flat_map (child_places c.args.nodes.now)) c.deref.ensures.value)
    (behind-all c.args.width _ _ c.clear.new.self c.push_given.new.out c.clear.ensures.value c.in_ok-push_given.ensures.value)

pub returns-clause-places : goal.returns-clause-places
returns-clause-places c = c.in_ok-place_children.ensures.value ∙ ap (flat_map (child_places c.args.nodes.now)) c.deref.ensures.value

pub returns-clause-value : goal.returns-clause-value
returns-clause-value c =
    given-are c.args.width c.args.nodes.now c.args.below.now c.args.parts.now c.requires.can (record { places = c.place_children.new.places; lanes = c.push_given.new.out }) (c.in_ok-place_children.ensures.value ∙ ap (flat_map (child_places c.args.nodes.now)) c.deref.ensures.value)
    (behind-all c.args.width _ _ c.clear.new.self c.push_given.new.out c.clear.ensures.value c.in_ok-push_given.ensures.value)
