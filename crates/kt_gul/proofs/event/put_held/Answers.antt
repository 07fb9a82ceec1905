use Rattle.std.proofs.Common.{List, length, subst, sym}
use Rattle.kt_rec.specs.declared.hazard.DamageBin.{DamageBin}
use Rattle.kt_gul.specs.declared.struck.StruckItem.{StruckItem}
use Rattle.kt_gul.specs.StepTables.{AreTables}
use Rattle.kt_gul.specs.StruckItems.{AreInOrder}
use Rattle.kt_gul.proofs.event.put_held.Goals as goal

pub put_struck-requires-clause-order : goal.put_struck-requires-clause-order
put_struck-requires-clause-order c = subst (λ (struck : List StruckItem). AreInOrder c.args.portfolio.now.rows c.args.cdfs.now struck) (sym c.as_slice.ensures.value) c.in_ok-struck.ensures.order

pub put_struck-requires-clause-tables : goal.put_struck-requires-clause-tables
put_struck-requires-clause-tables c =
    subst (λ (dictionary : List DamageBin). AreTables dictionary c.args.cdfs.now (length c.args.cdfs.now) c.in_ok-tables.tables.tables.items c.in_ok-tables.tables.steps.items) c.damage_bins.ensures.value c.in_ok-tables.ensures.value

pub returns : goal.returns
returns c = record { ok = c.put_struck.ensures.ok; unchanged = c.put_struck.ensures.unchanged }
