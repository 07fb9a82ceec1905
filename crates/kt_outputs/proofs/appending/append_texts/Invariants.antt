-- The first files of the list have gained their texts, and nothing is pending.
use Rattle.std.proofs.Common.{◌≡◌, ℕ, List, [], Ok}
use Rattle.kt_out.specs.declared.fault.Fault.{Fault}
use Rattle.kt_outputs.specs.Files.{files_with, Makes}
use Rattle.kt_outputs.specs.Texts.{text_of, lengthened_by, files_midway}
use Rattle.kt_outputs.proofs.appending.append_texts.Given as goal

abbrev pub invariant-loop-file : goal.invariant-loop-file
invariant-loop-file g l = record {
  made : (start : g.T.Texts.Start) → g.T.Texts.are_of start l.texts → (text : g.row.F.Denot → List ℕ) → Makes {T = Unit {0}} {E = Fault} (files_with g.F.Named.name text l.files) (files_midway g.F.Named.name (lengthened_by text (text_of g.T.Texts.pieces_of start l.texts)) text l.file-index l.files) (g.O.Outputs.state l.initial.outputs) (g.O.Outputs.state l.outputs) (Ok tt);
  none_pending : l.out ≡ [];
  untouched : (start : g.T.Texts.Start) → g.T.Texts.are_of start l.texts → ((file : g.row.F.Denot) → text_of g.T.Texts.pieces_of start l.texts file ≡ []) → g.O.Outputs.state l.outputs ≡ g.O.Outputs.state l.initial.outputs;
  counted : (g.O.Outputs.state l.outputs).faults ≡ (g.O.Outputs.state l.initial.outputs).faults;
}
