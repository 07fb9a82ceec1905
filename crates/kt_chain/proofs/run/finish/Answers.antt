use Rattle.std.proofs.Common.{◌++◌, List, ap, sym, subst, refl}
use Rattle.std.specs.Prelude.{All}
use Rattle.kt_curve.specs.SetsOfCurves.{AreSomeCurves, KeptCurves}
use Rattle.kt_files.specs.declared.file.OutputFile.{OutputFile}
use Rattle.kt_files.specs.OutputFiles.{output_name}
use Rattle.kt_files.specs.Parts.{end_text}
use Rattle.kt_out.specs.declared.fault.Fault.{Fault}
use Rattle.kt_out.specs.declared.fault.Fault.TheVariants.{OutOfMemory}
use Rattle.kt_outputs.specs.Composing.{makes_nothing, stops_behind_grown}
use Rattle.kt_outputs.specs.Files.{files_with}
use Rattle.kt_tables.specs.Lookups.{return_periods_of}
use Rattle.kt_chain.specs.Runs.{RunShares}
use Rattle.kt_chain.proofs.TextLemmas.{ends_made}
use Rattle.kt_chain.proofs.run.finish.Goals as goal

pub returns-in_default-clause-made : goal.returns-in_default-clause-made
returns-in_default-clause-made g c = λ history text are.
    let held = files_with output_name text c.args.run.now.files in
    let before = g.O.Outputs.state c.args.outputs.now in
    stops_behind_grown {T = Unit {0}} {U = Unit {0}} {E = Fault} Fault held output_name text (λ (file : OutputFile). text file ++ end_text c.args.fold.now.cells.samples c.args.fold.now.rows history file)
    (λ file. record { rest = end_text c.args.fold.now.cells.samples c.args.fold.now.rows history file; is = refl }) c.args.run.now.files before before (tt {0}) OutOfMemory (makes_nothing (Unit {0}) Fault held before (tt {0}))

pub returns-clause-made : goal.returns-clause-made
returns-clause-made g c = λ history text are.
    ends_made c.run.inside.files.now c.args.run.now.files (ap (λ (r : RunShares). r.files) c.run.view_is) c.portfolio-portfolio.result.now.rows c.args.fold.now.rows c.portfolio-portfolio.ensures c.cells-cells.result.now c.args.fold.now.cells c.cells-cells.ensures history are
    (g.O.Outputs.state c.args.outputs.now) (g.O.Outputs.state c.append_texts_beside.new.outputs) c.append_texts_beside.result text
    (λ here. c.append_texts_beside.ensures.made history
    (record { ends = here; curves = subst (λ (curves : List KeptCurves). All (AreSomeCurves c.cells-cells.result.now (return_periods_of c.portfolio-portfolio.result.now.rows)) curves) (sym c.as_slice.ensures.value) c.in-Ok.ensures }) text)
