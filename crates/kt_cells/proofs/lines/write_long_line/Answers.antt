use Rattle.std.proofs.Common.{◌≡◌, ◌+◌, ◌-◌, arith, min}
use Rattle.kt_cells.proofs.FieldLemmas.{line_from-end}
use Rattle.kt_cells.proofs.lines.write_long_line.Goals as goal

pub loop-column-init : goal.loop-column-init
loop-column-init g c = record {
  start = omega arith;
  within = omega arith;
  line = rw c.told-kinds at (line_from-end c.args.kinds.now c.args.values.now c.args.text.now c.args.end (omega (arith, c.told-kinds, c.told-values)) c.told-text (omega arith) c.requires.within);
}

pub loop-column-preserved : goal.loop-column-preserved
loop-column-preserved g c =
    let now : c.loop-column.column ≡ min g.row.N (c.loop-column.column - 1 + 1) = omega (arith, c.loop-column.invariant.within) in
    let next : min g.row.N (c.loop-column.column - 1) ≡ c.loop-column.column - 1 = omega (arith, c.loop-column.invariant.within) in record {
      start = omega (arith, c.loop-column.invariant.start, c.write_field-at.ensures.start);
      within = omega (arith, c.loop-column.invariant.within);
      line = rw next at (c.write_field-at.ensures.line c.args.kinds.now _ _ c.units_of-units.ensures c.told-kinds (rw now at c.loop-column.invariant.line));
    }

pub returns-clause-written : goal.returns-clause-written
returns-clause-written g c = let none : c.loop-column.column ≡ 0 = omega arith in (rw none at c.loop-column.invariant.line).line_is
