use Rattle.std.proofs.Common.{arith}
use Rattle.kt_rec.specs.declared.kind.Kind.TheVariants.{Id}
use Rattle.kt_cells.proofs.TextLemmas.{plain-front}
use Rattle.kt_cells.proofs.plain_rows.with_field.Goals as goal

pub returns-clause-read : goal.returns-clause-read
returns-clause-read g c = λ floor text more row.
    let read = c.in_ok-field.ensures.field in
    rw c.rule_after.ensures (plain-front c.args.front.rest.now more row Id _ read.size c.in_ok-field.field.value c.in_ok-field.field.rest.now (omega (arith, c.told-kinds, c.requires.column)) read.within
    (c.fields_stay_fields.ensures _ more _ read.field read.within) (rw c.under.ensures at read.good) (omega (arith, c.if-field-least.false)) (read.behind more))
