use Rattle.std.proofs.Common.{List, ◌∙◌}
use Rattle.kt_out.specs.NamedFiles.{File}
use Rattle.kt_rec.specs.declared.table.TableId.{TableId}
use Rattle.kt_load.specs.FileNames.{stage_tables}
use Rattle.kt_gen.specs.Generated.{files_of}
use Rattle.kt_gen.specs.Parts.{exposure_tables, hazard_tables, insurance_tables, period_tables, summary_tables}
use Rattle.kt_gen.proofs.PartLemmas.{adds-known}
use Rattle.kt_gen.proofs.generated.generate.Goals as goal

pub returns : goal.returns
returns c =
    let seed = c.args.seed in
    let items = c.args.items in
    let events = c.args.events in
    let part : List TableId → List File = files_of seed items events in
    let hazard_seed = c.in_ok-add_exposure.ensures.seed ∙ c.new-draws.ensures.seed in
    let period_seed = c.in_ok-add_hazard.ensures.seed ∙ hazard_seed in
    let one = adds-known _ c.add_exposure.new.inputs _ (part exposure_tables) c.new-inputs.ensures (rw c.new-draws.ensures.seed at c.in_ok-add_exposure.ensures.files) in
    let two = adds-known _ c.add_hazard.new.inputs _ (part hazard_tables) one (rw hazard_seed at c.in_ok-add_hazard.ensures.files) in
    let three = adds-known _ c.add_insurance.new.inputs _ (part insurance_tables) two (c.in_ok-add_insurance.ensures seed events) in
    let four = adds-known _ c.add_summaries.new.inputs _ (part summary_tables) three (c.in_ok-add_summaries.ensures seed events) in
    let five = adds-known _ c.add_periods.new.inputs _ (part period_tables) four (rw period_seed at c.in_ok-add_periods.ensures) in
    let six = adds-known _ c.add_stage.new.inputs _ (part (stage_tables 1)) five (c.in_ok-add_stage.ensures seed events) in
    record { value = six }
