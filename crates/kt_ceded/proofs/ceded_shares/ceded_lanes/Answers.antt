use Rattle.std.proofs.Common.{arith}
use Rattle.kt_ceded.proofs.TurnLemmas.{turn-lanes}
use Rattle.kt_ceded.proofs.ceded_shares.ceded_lanes.Goals as goal

pub returns-then-are_in_turn : goal.returns-then-are_in_turn
returns-then-are_in_turn c = record {
  value = turn-lanes c.args.width c.args.places.now (c.are_in_turn.ensures.value c.if-are_in_turn.true) c.args.table (omega (arith, c.requires.some, c.requires.rows)) c.requires.shares c.into_shares.result c.into_shares.ensures.wide c.into_shares.ensures.value;
}
