use Rattle.std.proofs.Common.{◌+◌, ◌∙◌}
use Rattle.kt_gen.proofs.GroupLemmas.{group-more, groups-end}
use Rattle.kt_gen.proofs.groups.put_groups.Goals as goal

pub loop-number-preserved : goal.loop-number-preserved
loop-number-preserved g c = record {
  written =
      group-more g.G.Groups.kinds (g.G.Groups.rows c.args.groups.now c.args.draws.now.seed) _ c.loop-number.out c.put.new.out c.loop-number.number (c.args.first + c.args.count) c.loop-number-test.true
      (rw c.loop-number.invariant.seed at c.in_ok-put.ensures.ok) c.loop-number.invariant.written;
  at = c.in_ok-put.ensures.at;
  seed = c.in_ok-put.ensures.seed ∙ c.loop-number.invariant.seed;
}

pub returns-clause-ok : goal.returns-clause-ok
returns-clause-ok g c =
    groups-end g.G.Groups.kinds (g.G.Groups.rows c.args.groups.now c.args.draws.now.seed) _ c.loop-number.out c.loop-number.number (c.args.first + c.args.count) c.loop-number-test.false c.loop-number.invariant.written
