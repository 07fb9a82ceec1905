use Rattle.std.specs.Prelude.{drop, ◌≡◌}
use Rattle.kt_rec.specs.Rows.{rows_of}
use Rattle.kt_load.proofs.TablesLemmas.{Carries}
use Rattle.kt_load.proofs.table.read_tables.Given as goal

abbrev pub invariant-loop-id : goal.invariant-loop-id
invariant-loop-id g l = Carries (g.I.Inputs.state l.fn.inputs).held l.set l.ids (drop l.id-index l.ids) (rows_of l.fn.tables) (rows_of l.tables) × (g.I.Inputs.state l.inputs ≡ g.I.Inputs.state l.fn.inputs)
