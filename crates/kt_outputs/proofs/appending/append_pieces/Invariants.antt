-- A front of the text is added, the pieces behind it are pending, and those from the next one on are to come.
use Rattle.std.proofs.Common.{◌≡◌, [], drop}
use Rattle.kt_outputs.specs.Midway.{IsMidway}
use Rattle.kt_outputs.specs.Texts.{text_of, joined}
use Rattle.kt_outputs.proofs.appending.append_pieces.Given as goal

abbrev pub invariant-loop-piece : goal.invariant-loop-piece
invariant-loop-piece g l = record {
  midway : (start : g.T.Texts.Start) → g.T.Texts.are_of start l.texts → IsMidway (g.O.Outputs.state l.initial.outputs).written (g.O.Outputs.state l.outputs).written l.name (text_of g.T.Texts.pieces_of start l.texts l.file) l.out (joined (drop l.piece (g.T.Texts.pieces_of start l.texts l.file)));
  untouched : (start : g.T.Texts.Start) → g.T.Texts.are_of start l.texts → text_of g.T.Texts.pieces_of start l.texts l.file ≡ [] → g.O.Outputs.state l.outputs ≡ g.O.Outputs.state l.initial.outputs;
  counted : (g.O.Outputs.state l.outputs).faults ≡ (g.O.Outputs.state l.initial.outputs).faults;
}
