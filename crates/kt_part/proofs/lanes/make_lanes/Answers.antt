use Rattle.std.proofs.Common.{◌∙◌, arith}
use Rattle.kt_part.proofs.GatherLemmas.{made-more}
use Rattle.kt_part.proofs.lanes.make_lanes.Goals as goal

pub loop-worker-preserved : goal.loop-worker-preserved
loop-worker-preserved g c =
    let one = c.in_ok-arm.ensures in let given = c.loop-worker.invariant.given in record {
      given = record {
        of = one.of;
        none = one.kept.0 ∙ given.none;
        left = let left = one.left in let was = given.left in omega arith;
        among = one.kept.1 ∙ given.among;
      };
      lanes =
          made-more c.args.claims.now c.loop-worker._worker c.loop-worker.arms.items c.push.new.self.items c.loop-worker.ends.items c.push-in-loop-worker.new.self.items c.in_ok-arm.arm c.in_ok-arm.end c.loop-worker.invariant.lanes
          one.ready one.pair one.empty c.in_ok-push.ensures.items c.in_ok-push-2.ensures.items;
    }
