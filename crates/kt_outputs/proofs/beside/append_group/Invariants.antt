-- The files before the next one have gained their texts.
use Rattle.std.proofs.Common.{◌≡◌, ℕ, ◌+◌, List, map, take, drop}
use Rattle.std.specs.Prelude.{All}
use Rattle.kt_out.specs.OutputFiles.{OutputsState}
use Rattle.kt_outputs.specs.Beside.{MadeUpTo}
use Rattle.kt_outputs.specs.Hands.{IsHandOf}
use Rattle.kt_outputs.specs.Texts.{text_of}
use Rattle.kt_outputs.proofs.beside.append_group.Given as goal

abbrev pub invariant-loop-at : goal.invariant-loop-at
invariant-loop-at g l = record {
  held : (wanted : List (List ℕ)) → All (IsHandOf wanted) l.initial.made → All (IsHandOf wanted) l.made;
  made : (start : g.T.Texts.Start) (begun : OutputsState) (text : g.row.F.Denot → List ℕ) → g.T.Texts.are_of start l.texts → All (IsHandOf (map (text_of g.T.Texts.pieces_of start l.texts) (take l.count (drop l.first l.files)))) l.initial.made → MadeUpTo g.F.Named.name text (text_of g.T.Texts.pieces_of start l.texts) l.files l.first begun (g.O.Outputs.state l.initial.outputs) → MadeUpTo g.F.Named.name text (text_of g.T.Texts.pieces_of start l.texts) l.files (l.first + l.at) begun (g.O.Outputs.state l.outputs);
  counted : (g.O.Outputs.state l.outputs).faults ≡ (g.O.Outputs.state l.initial.outputs).faults;
}
