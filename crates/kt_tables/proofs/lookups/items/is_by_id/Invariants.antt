-- The items so far rise.
use Rattle.kt_index.specs.RiseLaws.{RisesTo}
use Rattle.kt_rec.specs.declared.exposure.Item.{Item}
use Rattle.kt_tables.proofs.lookups.items.is_by_id.Given as goal

abbrev pub invariant-loop-row : goal.invariant-loop-row
invariant-loop-row l = RisesTo (λ (row : Item). row.item_id) l.items l.row-index l.last
