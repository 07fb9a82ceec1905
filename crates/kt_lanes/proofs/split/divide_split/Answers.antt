use Rattle.std.proofs.Common.{arith}
use Rattle.kt_lanes.specs.SplitLaws.{split-end, split-more, split-start}
use Rattle.kt_lanes.proofs.split.divide_split.Goals as goal

pub loop-k-init : goal.loop-k-init
loop-k-init c = split-start c.args.totals.now c.args.first.now c.args.second.now c.args.parts.now c.args.rests.now c.requires.parts_wide c.requires.rests_wide

pub overflow_add-first : goal.overflow_add-first
overflow_add-first c = record { fits = omega (arith, c.requires.can.few c.loop-k.k c.loop-k-test.true) }

pub loop-k-preserved : goal.loop-k-preserved
loop-k-preserved c = split-more c.args.totals.now c.args.first.now c.args.second.now c.loop-k.k c.args.parts.now c.args.rests.now c.loop-k.parts c.loop-k.rests c.part_to-part.result c.rest_of.result c.loop-k-test.true c.loop-k.invariant c.part_to-part.ensures.value c.rest_of.ensures.value

pub returns : goal.returns
returns c = record { value = split-end c.args.totals.now c.args.first.now c.args.second.now c.loop-k.k c.args.parts.now c.args.rests.now c.loop-k.parts c.loop-k.rests c.loop-k-test.false c.loop-k.invariant }
