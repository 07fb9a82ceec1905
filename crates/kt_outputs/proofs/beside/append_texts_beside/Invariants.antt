-- The files before the next one have gained their texts.
use Rattle.std.proofs.Common.{◌≡◌, ◌≤◌, ◌-◌, List, length}
use Rattle.kt_outputs.specs.Beside.{MadeUpTo}
use Rattle.kt_outputs.specs.Texts.{text_of}
use Rattle.kt_outputs.proofs.beside.append_texts_beside.Given as goal

abbrev pub invariant-loop-first : goal.invariant-loop-first
invariant-loop-first g l = record {
  within : l.first ≤ length l.files;
  made : (start : g.T.Texts.Start) → g.T.Texts.are_of start l.texts → (text : g.row.F.Denot → List _) → MadeUpTo g.F.Named.name text (text_of g.T.Texts.pieces_of start l.texts) l.files l.first (g.O.Outputs.state l.initial.outputs) (g.O.Outputs.state l.outputs);
  counted : (g.O.Outputs.state l.outputs).faults ≡ (g.O.Outputs.state l.initial.outputs).faults;
}

abbrev pub decreases-loop-first : goal.decreases-loop-first
decreases-loop-first g l = length l.files - l.first
