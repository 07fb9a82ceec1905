use Rattle.std.proofs.Common.{length, map}
use Rattle.std.proofs.lemmas.Result.{on_ok_weaker}
use Rattle.kt_fmtree.specs.Sharing.{part_of}
use Rattle.kt_fmtree.specs.Parts.{units_at}
use Rattle.kt_fmtree.specs.Placed.{unit_parts}
use Rattle.kt_lanes.specs.BehindLaws.{lanes-behind}
use Rattle.kt_levels.specs.Down.{placed_at}
use Rattle.kt_levels.proofs.by_id.push_added.Goals as goal

pub append-requires-clause-more : goal.append-requires-clause-more
append-requires-clause-more c = c.in_ok-found.ensures.value.wide

pub returns-clause-value : goal.returns-clause-value
returns-clause-value c =
    on_ok_weaker c.append.result (λ appended.
    lanes-behind c.args.width (length c.args.ids.now) (λ k. map (part_of (unit_parts (units_at c.args.programme.now 0) (placed_at k c.args.parts.now))) c.args.ids.now) c.in_ok-found.found c.args.out.now c.append.new.self c.in_ok-found.ensures.value appended)
    c.append.ensures.ok
