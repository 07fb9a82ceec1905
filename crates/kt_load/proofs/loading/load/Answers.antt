use Rattle.std.proofs.Common.{subst, sym}
use Rattle.kt_rec.specs.Ranges.{AreInRange}
use Rattle.kt_rec.specs.Rows.{rows_of}
use Rattle.kt_load.specs.Steps.{NoneOutside}
use Rattle.kt_load.proofs.NeedLemmas.{no_rows-in_range, has_periods-from_all, read-loads, stop-loads}
use Rattle.kt_load.proofs.KnownLemmas.{if_known}
use Rattle.kt_load.proofs.OutsideLemmas.{no_rows-outside}
use Rattle.kt_load.proofs.loading.load.Goals as goal

-- src/loading.rt:106:11
pub read_tables-requires : goal.read_tables-requires
read_tables-requires g c = c.load_order.ensures.ids

-- src/loading.rt:110:11
pub new-requires-clause-ranges : goal.new-requires-clause-ranges
new-requires-clause-ranges g c = c.in-Ok.ensures.keeps.in_range (subst AreInRange (sym c.new-tables.ensures.absent) no_rows-in_range)

-- src/loading.rt:110:11
pub new-requires-clause-needed : goal.new-requires-clause-needed
new-requires-clause-needed g c = c.in-Ok.ensures.keeps.outside (subst (NoneOutside c.args.need.loaded) (sym c.new-tables.ensures.absent) (no_rows-outside c.args.need.loaded))

-- src/loading.rt:110:11
pub new-requires-clause-periods : goal.new-requires-clause-periods
new-requires-clause-periods g c = has_periods-from_all c.args.need c.load_order.result (rows_of c.read_tables.new.tables) c.load_order.ensures.value c.in-Ok.ensures.keeps.read_periods

-- src/loading.rt:108:22
pub returns-in-Err-clause-exact : goal.returns-in-Err-clause-exact
returns-in-Err-clause-exact g c = stop-loads _ c.args.need _ _ c.load_order.ensures.value c.new-tables.ensures.absent (rows_of c.read_tables.new.tables) c.in-Err.stop c.in-Err.ensures.tells

-- the portfolio that was made
pub returns-in-Ok-new-clause-exact : goal.returns-in-Ok-new-clause-exact
returns-in-Ok-new-clause-exact g c =
    let made = rw c.in-Ok-new.ensures.valid at (read-loads _ c.args.need _ _ c.load_order.ensures.value c.new-tables.ensures.absent (rows_of c.read_tables.new.tables) c.in-Ok.ensures.tells) in
    rw c.in-Ok-new.ensures.ok made

-- the check that refuses
pub returns-in-Err-new-clause-exact : goal.returns-in-Err-new-clause-exact
returns-in-Err-new-clause-exact g c =
    let loads = read-loads _ c.args.need _ _ c.load_order.ensures.value c.new-tables.ensures.absent (rows_of c.read_tables.new.tables) c.in-Ok.ensures.tells in
    if_known (g.I.Inputs.state c.args.inputs.now).held (λ files is. rw is (c.of_check.ensures.tells (rows_of c.read_tables.new.tables) _ c.in-Err-new.ensures.refused)) loads

-- src/loading.rt:103:1
pub returns-in-Err-new-clause-inputs : goal.returns-in-Err-new-clause-inputs
returns-in-Err-new-clause-inputs g c = c.of_check.ensures.inputs _ _ c.in-Ok.ensures.inputs
