use Rattle.std.proofs.Common.{arith}
use Rattle.kt_rec.specs.declared.kind.Kind.TheVariants.{Id}
use Rattle.kt_cells.proofs.FieldLemmas.{units-more, units-end}
use Rattle.kt_cells.proofs.lines.units_of.Goals as goal

pub loop-column-preserved : goal.loop-column-preserved
loop-column-preserved g c = rw (c.under.ensures, c.rule_after-rule.ensures) (units-more c.loop-column.invariant Id (omega (arith, c.told-kinds)) (omega (arith, c.told-kinds, c.told-values)))

pub returns : goal.returns
returns g c = units-end c.loop-column.invariant (omega (arith, c.told-kinds))
