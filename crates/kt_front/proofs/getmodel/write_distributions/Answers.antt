use Rattle.std.proofs.Common.{true, [], refl}
use Rattle.std.specs.Prelude.{unwrap_or}
use Rattle.kt_load.specs.EventRows.{footprint_name}
use Rattle.kt_front.specs.ModelOutcome.{model_outcome, model_tables}
use Rattle.kt_front.proofs.ModelLemmas.{has_footprint}
use Rattle.kt_front.proofs.getmodel.write_distributions.Goals as goal

pub returns : goal.returns
returns g c outputs =
    let rows = c.args.portfolio.now.rows in
    let held = (g.I.Inputs.state c.args.inputs.now).held in
    c.run_stage.ensures.ended true (λ files bytes. model_outcome files rows bytes) (g.I.Inputs.state c.args.inputs.now) outputs (λ unused. cc)
    (λ files bytes finds. record {
      start = model_tables rows (unwrap_or (files footprint_name) []);
      stood = (refl, record { files = files; known = finds.files_told refl; bytes = has_footprint held rows.footprint_size files (finds.files_told refl) c.requires.ready.file });
      is = refl;
    })
