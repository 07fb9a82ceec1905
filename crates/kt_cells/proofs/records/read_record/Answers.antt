use Rattle.std.proofs.Common.{sym, arith, refl, ◌∙◌}
use Rattle.std.proofs.lemmas.List.{take_rest}
use Rattle.kt_rec.specs.declared.kind.Kind.TheVariants.{Id}
use Rattle.kt_cells.proofs.RecordLemmas.{record-more, record-stops}
use Rattle.kt_cells.proofs.records.read_record.Goals as goal

pub returns-in-Err-clause-refused : goal.returns-in-Err-clause-refused
returns-in-Err-clause-refused g c =
    sym (record-stops c.loop-column.invariant Id (omega (arith, c.told-kinds)) c.in-Err.cause
    (sym c.in-Err.is ∙ rw (c.in_range.ensures, c.under.ensures, c.number.ensures, c.width-width.ensures) refl))

pub loop-column-preserved : goal.loop-column-preserved
loop-column-preserved g c =
    rw (take_rest, c.rule_after-rule.ensures, c.width-width.ensures)
    (record-more c.loop-column.invariant Id (omega (arith, c.told-kinds)) c.in-Ok.value
    (sym c.in-Ok.is ∙ rw (c.in_range.ensures, c.under.ensures, c.number.ensures, c.width-width.ensures) refl))
