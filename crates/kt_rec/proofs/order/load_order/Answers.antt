use Rattle.kt_rec.specs.LoadOrder.{each-is_table}
use Rattle.kt_rec.proofs.order.load_order.Goals as goal

-- each is a table of the base or of a stage
pub returns-clause-ids : goal.returns-clause-ids
returns-clause-ids c = each-is_table
