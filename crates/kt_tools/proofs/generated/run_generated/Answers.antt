use Rattle.kt_tools.specs.GeneratedRun.{generated_map}
use Rattle.kt_out.specs.NamedFiles.{bytes_of}
use Rattle.kt_tools.proofs.GeneratedLemmas.{footprint_held, footprint_known}
use Rattle.kt_tools.proofs.generated.run_generated.Goals as goal

pub run_loaded-requires-clause-file : goal.run_loaded-requires-clause-file
run_loaded-requires-clause-file g c = λ lives within.
    footprint_known (generated_map c.args.seed c.args.items c.args.events) (bytes_of c.in_ok-inputs.inputs.files) c.in-Ok.portfolio.rows c.in-Ok.ensures.loaded
    (footprint_held c.args.seed c.args.items c.args.events c.in_ok-inputs.inputs c.in_ok-inputs.ensures.value)

pub returns-in-Ok : goal.returns-in-Ok
returns-in-Ok g c =
    c.run_loaded.ensures c.args.seed c.args.items c.args.events c.in-Ok.ensures.loaded
    (footprint_held c.args.seed c.args.items c.args.events c.in_ok-inputs.inputs c.in_ok-inputs.ensures.value)
