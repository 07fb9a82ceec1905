-- The texts that hands have are those of their places.
use Rattle.std.proofs.Common.{List, ℕ}
use Rattle.std.specs.Prelude.{All}
use Rattle.kt_outputs.specs.Hands.{IsHandOf}
use Rattle.kt_outputs.proofs.hands.take_text.Given as goal

abbrev pub invariant-loop-hand : goal.invariant-loop-hand
invariant-loop-hand l = (wanted : List (List ℕ)) → All (IsHandOf wanted) l.initial.hands → All (IsHandOf wanted) l.hands
