use Rattle.std.proofs.Common.{[], sym, arith}
use Rattle.std.proofs.lemmas.List.{drop_more}
use Rattle.csv.specs.Records.{fields_of}
use Rattle.kt_rec.specs.declared.kind.Kind.TheVariants.{Id}
use Rattle.kt_cells.proofs.ReadingLemmas.{row-more, row-stops}
use Rattle.kt_cells.proofs.reader.read_record.Goals as goal

pub returns-in-Err : goal.returns-in-Err
returns-in-Err g c =
    row-stops c.loop-column.invariant Id _ _ c.in-Err.cause (omega (arith, c.told-kinds)) (drop_more (fields_of c.args.fields.now) c.loop-column.column [] (omega arith)) (rw (c.under.ensures, c.record_field.ensures) at (sym c.in-Err.ensures))

pub loop-column-preserved : goal.loop-column-preserved
loop-column-preserved g c =
    rw c.rule_after-rule.ensures
    (row-more c.loop-column.invariant Id _ _ c.in-Ok.value (omega (arith, c.told-kinds)) (drop_more (fields_of c.args.fields.now) c.loop-column.column [] (omega arith)) (rw (c.under.ensures, c.record_field.ensures) at (sym c.in-Ok.ensures)))
