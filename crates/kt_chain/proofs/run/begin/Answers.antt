use Rattle.std.proofs.Common.{[], Err, subst}
use Rattle.kt_files.specs.OutputFiles.{output_name}
use Rattle.kt_files.specs.Parts.{head_text}
use Rattle.kt_files.specs.declared.file.OutputFile.{OutputFile}
use Rattle.kt_out.specs.declared.fault.Fault.{Fault}
use Rattle.kt_outputs.specs.Composing.{makes_then, stops_grown}
use Rattle.kt_outputs.specs.Files.{Makes, files_with}
use Rattle.kt_outputs.specs.Growing.{front_of_longer}
use Rattle.kt_outputs.specs.Texts.{no_text}
use Rattle.kt_chain.specs.Runs.{RunShares}
use Rattle.kt_chain.proofs.TextLemmas.{heads_made}
use Rattle.kt_chain.proofs.run.begin.Goals as goal

pub returns-in-Err-clause-made : goal.returns-in-Err-clause-made
returns-in-Err-clause-made g c =
    subst (λ (run : RunShares). Makes {T = Unit {0}} {E = Fault} [] (files_with output_name head_text run.files) (g.O.Outputs.state c.args.outputs.now) (g.O.Outputs.state c.create_files.new.outputs) (Err c.in-Err.fault)) c.run.view_is
    (stops_grown {F = OutputFile} {U = Unit {0}} {D = Fault} {E = Fault} (Unit {0}) [] output_name no_text head_text (λ file. front_of_longer [] (head_text file)) c.run.inside.files.now
    (g.O.Outputs.state c.args.outputs.now) (g.O.Outputs.state c.create_files.new.outputs) c.in-Err.fault c.in-Err.fault c.in-Err.ensures.made)

pub returns-clause-made : goal.returns-clause-made
returns-clause-made g c =
    subst (λ (run : RunShares). Makes {T = Unit {0}} {E = Fault} [] (files_with output_name head_text run.files) (g.O.Outputs.state c.args.outputs.now) (g.O.Outputs.state c.append_texts.new.outputs) c.append_texts.result) c.run.view_is
    (makes_then {T = Unit {0}} {U = Unit {0}} {D = Fault} {E = Fault} [] (files_with output_name no_text c.run.inside.files.now) (files_with output_name head_text c.run.inside.files.now)
    (g.O.Outputs.state c.args.outputs.now) (g.O.Outputs.state c.create_files.new.outputs) (g.O.Outputs.state c.append_texts.new.outputs) tt c.append_texts.result c.in_default.ensures.made
    (heads_made c.run.inside.files.now (g.O.Outputs.state c.create_files.new.outputs) (g.O.Outputs.state c.append_texts.new.outputs) c.append_texts.result (c.append_texts.ensures.made tt tt no_text)))
