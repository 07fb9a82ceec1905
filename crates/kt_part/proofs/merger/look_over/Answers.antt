use Rattle.std.proofs.Common.{Global, List, ◌++◌, arith, subst, sym}
use Rattle.rtrb.specs.Ring.{SameConsumer, received}
use Rattle.rtrb.specs.declared.AnyItems.{AnyItems}
use Rattle.rtrb.specs.declared.consumer.Consumer.{Consumer}
use Rattle.kt_claims.specs.Arrivals.{HasCome}
use Rattle.kt_claims.specs.declared.inbox.Item.{Item}
use Rattle.kt_part.proofs.LaneLemmas.{same-set, come-set}
use Rattle.kt_part.proofs.merger.look_over.Goals as goal

pub loop-place-preserved : goal.loop-place-preserved
loop-place-preserved g c =
    let place = c.loop-place.place in let was = c.index-lanes-place.result in let now = c.look.new.lane in let is = c.index-lanes-place.is in record {
      same = same-set c.args.lanes.now c.loop-place.lanes place was now (omega arith) is c.loop-place.invariant.same
          (subst (λ (lane : Consumer (Item g.row.B.Denot) Global AnyItems). SameConsumer lane now) (sym is) c.look.ensures.same);
      come = λ come. come-set c.loop-place.inbox c.look.new.inbox c.loop-place.lanes place was now (omega arith) is
          (subst
          (λ (lane : Consumer (Item g.row.B.Denot) Global AnyItems). (front back : List (Item g.row.B.Denot)) → HasCome c.loop-place.inbox (front ++ (received lane ++ back)) → HasCome c.look.new.inbox (front ++ (received now ++ back)))
          (sym is) c.look.ensures.come)
          (c.loop-place.invariant.come come);
    }
