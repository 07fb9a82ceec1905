-- The pieces so far are joined.
use Rattle.std.proofs.Common.{◌≡◌, take}
use Rattle.kt_outputs.specs.Texts.{joined}
use Rattle.kt_outputs.proofs.hands.whole_text.Given as goal

abbrev pub invariant-loop-piece : goal.invariant-loop-piece
invariant-loop-piece g l = (start : g.T.Texts.Start) → g.T.Texts.are_of start l.texts → l.text ≡ joined (take l.piece (g.T.Texts.pieces_of start l.texts l.file))
