use Rattle.std.proofs.Common.{map, Vec, Global}
use Rattle.kt_rec.specs.declared.financial.FmProgramme.{FmProgramme}
use Rattle.kt_rec.specs.declared.table.Table.TheVariants as table
use Rattle.kt_schema.specs.Loading.{HasRows}
use Rattle.kt_schema.specs.Rows.{fm_programme_values}
use Rattle.kt_schema.proofs.LoadingLemmas.{stage_put}
use Rattle.kt_schema.proofs.typed_row.FmProgrammeTypedRow3.keep.Goals as goal

pub returns : goal.returns
returns c = λ bytes has read. stage_put (λ (list : Vec FmProgramme Global). HasRows table.FmProgramme bytes (map fm_programme_values list.items)) c.args.into.now c.args.stage c.index-into-stage.result (λ before list. record before { programme = list }) c.args.list.now _ has c.index-into-stage.is c.swap.ensures.x_after
