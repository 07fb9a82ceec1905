use Rattle.std.proofs.Common.{◌≡◌, suc, List, [], ◌∷◌, ◌++◌, length, append_assoc, ap, sym, ◌∙◌, arith}
use Rattle.rtrb.specs.Ring.{received, known_items}
use Rattle.kt_claims.specs.declared.inbox.Item.{Item}
use Rattle.kt_claims.proofs.ArrivalLemmas.{moved}
use Rattle.kt_part.proofs.merger.drain.Goals as goal

pub loop-turn-preserved : goal.loop-turn-preserved
loop-turn-preserved g c =
    let was = c.loop-turn.lane in let now = c.pop_known-item.new.self in let item = c.pop_known-item.result in let popped = c.pop_known-item.ensures.received in record {
      left = let one : length (known_items was) ≡ suc (length (known_items now)) = ap length popped.1 in let left = c.loop-turn.invariant.left in omega arith;
      sent = ap (λ (l : List (Item g.row.B.Denot)). l ++ known_items now) popped.0
          ∙ (append_assoc (received was) (item ∷ []) (known_items now) ∙ (ap (λ (l : List (Item g.row.B.Denot)). received was ++ l) (sym popped.1) ∙ c.loop-turn.invariant.sent));
      come = λ front back come. moved c.loop-turn.inbox c.accept.new.self item (received was) (received now) front back popped.0 c.accept.ensures (c.loop-turn.invariant.come front back come);
    }
