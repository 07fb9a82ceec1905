use Rattle.std.proofs.Common.{◌≡◌, arith, min}
use Rattle.kt_cells.proofs.FieldLemmas.{line_from-end}
use Rattle.kt_cells.proofs.lines.write_short_line.Goals as goal

pub returns-clause-written : goal.returns-clause-written
returns-clause-written g c =
    let all : g.row.N ≡ min g.row.N 5 = omega (arith, c.requires.few) in
    let none : min g.row.N 0 ≡ 0 = omega arith in
    let units = c.units_of-units.ensures in
    let end = rw (c.told-kinds, all) at (line_from-end c.args.kinds.now c.args.values.now c.args.text.now c.args.end (omega (arith, c.told-kinds, c.told-values)) c.told-text (omega arith) c.requires.within) in
    let fifth = c.write_field-fifth.ensures.line c.args.kinds.now _ _ units c.told-kinds end in
    let fourth = c.write_field-fourth.ensures.line c.args.kinds.now _ _ units c.told-kinds fifth in
    let third = c.write_field-third.ensures.line c.args.kinds.now _ _ units c.told-kinds fourth in
    let second = c.write_field-second.ensures.line c.args.kinds.now _ _ units c.told-kinds third in
    (rw none at (c.write_field.ensures.line c.args.kinds.now _ _ units c.told-kinds second)).line_is
