use Rattle.std.proofs.Common.{◌∙◌, sym, arith}
use Rattle.kt_rec.specs.Rows.{rows_of}
use Rattle.kt_rec.specs.declared.table.Table.TheVariants as table
use Rattle.kt_load.specs.FileNames.{table_at}
use Rattle.kt_load.proofs.TablesLemmas.{carries-behind, carries-read, carries-stop, keeps-all, tells-all}
use Rattle.kt_load.proofs.table.read_tables.Goals as goal

-- src/table.rt:98:5
pub loop-id-preserved-then-not-has : goal.loop-id-preserved-then-not-has
loop-id-preserved-then-not-has g c = (carries-behind _ _ _ _ (table_at 0 table.Events) _ _ c.loop-id.invariant.0 c.loop-id-test.true (sym c.has.ensures.value ∙ c.if-not-has.true), c.loop-id.invariant.1)

-- src/table.rt:104:26
pub returns-in-Err-clause-tells : goal.returns-in-Err-clause-tells
returns-in-Err-clause-tells g c = carries-stop _ _ _ _ (table_at 0 table.Events) _ _ c.loop-id.invariant.0 c.in-Err.stop c.loop-id-test.true (sym c.has.ensures.value ∙ c.if-not-has.false) (rw c.loop-id.invariant.1 at c.in-Err.ensures.refused)

-- src/table.rt:98:5
pub loop-id-preserved : goal.loop-id-preserved
loop-id-preserved g c = (
  carries-read _ _ _ _ (table_at 0 table.Events) _ _ c.loop-id.invariant.0 (rows_of c.read_table.new.tables) c.loop-id-test.true (sym c.has.ensures.value ∙ c.if-not-has.false) (rw c.loop-id.invariant.1 at c.in-Ok.ensures.ok) c.in-Ok.ensures.keeps,
  c.in-Ok.ensures.inputs ∙ c.loop-id.invariant.1,
)

-- src/table.rt:85:1
pub returns-clause-tells : goal.returns-clause-tells
returns-clause-tells g c = tells-all _ _ _ _ (table_at 0 table.Events) _ _ c.loop-id.invariant.0 (omega (arith, c.loop-id-test.false))

-- src/table.rt:85:1
pub returns-clause-keeps : goal.returns-clause-keeps
returns-clause-keeps g c = keeps-all _ _ _ _ (table_at 0 table.Events) _ _ c.loop-id.invariant.0 (omega (arith, c.loop-id-test.false))
