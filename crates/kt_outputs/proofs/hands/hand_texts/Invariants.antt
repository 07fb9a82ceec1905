-- Each text so far is the one of its place.
use Rattle.std.proofs.Common.{map}
use Rattle.std.specs.Prelude.{All}
use Rattle.kt_outputs.specs.Hands.{IsTextOf}
use Rattle.kt_outputs.specs.Texts.{text_of}
use Rattle.kt_outputs.proofs.hands.hand_texts.Given as goal

abbrev pub invariant-loop-turn : goal.invariant-loop-turn
invariant-loop-turn g l = (start : g.T.Texts.Start) → g.T.Texts.are_of start l.texts → All (IsTextOf (map (text_of g.T.Texts.pieces_of start l.texts) l.files)) l.made.items
