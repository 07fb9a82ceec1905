use Rattle.std.proofs.Common.{◌≡◌, ◌+◌, List, ◌++◌, length}
use Rattle.rtrb.specs.Ring.{received, sent, known_items}
use Rattle.kt_claims.specs.Arrivals.{HasCome}
use Rattle.kt_claims.specs.declared.inbox.Item.{Item}
use Rattle.kt_part.proofs.merger.drain.Given as goal

abbrev pub invariant-loop-turn : goal.invariant-loop-turn
invariant-loop-turn g l = record {
  left : length (known_items l.lane) + l._turn ≡ l.left;
  sent : received l.lane ++ known_items l.lane ≡ sent l.fn.ring;
  come : (front back : List (Item g.row.B.Denot)) → HasCome l.fn.inbox (front ++ (received l.fn.lane ++ back)) → HasCome l.inbox (front ++ (received l.lane ++ back));
}
