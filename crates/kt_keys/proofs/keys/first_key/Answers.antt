use Rattle.std.proofs.Common.{ap, ◌∙◌}
use Rattle.std.specs.Option.{option_or}
use Rattle.kt_rec.specs.Places.{table_at}
use Rattle.kt_rec.specs.Rows.{rows_of}
use Rattle.kt_rec.specs.declared.table.Table.TheVariants as table
use Rattle.kt_keys.specs.KeyChecks.{key_check}
use Rattle.kt_keys.specs.StageLaws.{listed-step}
use Rattle.kt_keys.proofs.keys.first_key.Goals as goal

pub loop-id-preserved : goal.loop-id-preserved
loop-id-preserved c =
    listed-step (key_check (rows_of c.args.tables.now) c.args.need.now) c.args.ids.now c.loop-id.id-index (table_at 0 table.Events) c.loop-id.found c.or-found.result _ c.loop-id-test.true
    (c.or-found.ensures ∙ ap (λ x. option_or c.loop-id.found x) c.in_ok-next.ensures.value) c.loop-id.invariant
