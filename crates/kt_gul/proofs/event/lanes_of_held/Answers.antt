use Rattle.std.proofs.Common.{List, length, subst, sym}
use Rattle.kt_rec.specs.declared.hazard.DamageBin.{DamageBin}
use Rattle.kt_gul.specs.declared.struck.StruckItem.{StruckItem}
use Rattle.kt_gul.specs.StepTables.{AreTables}
use Rattle.kt_gul.specs.StruckItems.{AreInOrder}
use Rattle.kt_gul.proofs.event.lanes_of_held.Goals as goal

pub lanes_by_id-requires-clause-order : goal.lanes_by_id-requires-clause-order
lanes_by_id-requires-clause-order c = subst (λ (struck : List StruckItem). AreInOrder c.args.portfolio.now.rows c.args.cdfs.now struck) (sym c.as_slice.ensures.value) c.in_ok-struck.ensures.order

pub lanes_by_id-requires-clause-tables : goal.lanes_by_id-requires-clause-tables
lanes_by_id-requires-clause-tables c =
    subst (λ (dictionary : List DamageBin). AreTables dictionary c.args.cdfs.now (length c.args.cdfs.now) c.in_ok-tables.tables.tables.items c.in_ok-tables.tables.steps.items) c.damage_bins.ensures.value c.in_ok-tables.ensures.value

pub returns : goal.returns
returns c = record { rows = c.lanes_by_id.ensures.rows; value = c.lanes_by_id.ensures.value }
