-- The first files of the list are made.
use Rattle.std.proofs.Common.{◌≡◌, [], take, Ok}
use Rattle.kt_out.specs.declared.fault.Fault.{Fault}
use Rattle.kt_outputs.specs.Files.{files_with, Makes}
use Rattle.kt_outputs.specs.Texts.{no_text}
use Rattle.kt_outputs.proofs.creating.create_files.Given as goal

abbrev pub invariant-loop-file : goal.invariant-loop-file
invariant-loop-file g l = record {
  made : Makes {T = Unit {0}} {E = Fault} [] (files_with g.F.Named.name no_text (take l.file-index l.files)) (g.O.Outputs.state l.initial.outputs) (g.O.Outputs.state l.outputs) (Ok tt);
  counted : (g.O.Outputs.state l.outputs).faults ≡ (g.O.Outputs.state l.initial.outputs).faults;
}
