use Rattle.kt_chain.proofs.RowLemmas.{rows_given}
use Rattle.kt_chain.proofs.rows.fill_rows.Goals as goal

pub returns-in-Ok-clause-rows : goal.returns-in-Ok-clause-rows
returns-in-Ok-clause-rows g c = rows_given (g.I.Inputs.state c.args.inputs.now).held c.args.portfolio.now.rows c.args.events.now c.fill.new.self c.in-Ok.ensures.value

pub returns-in-Err-clause-inputs : goal.returns-in-Err-clause-inputs
returns-in-Err-clause-inputs g c = c.read_stop.ensures (g.I.Inputs.state c.args.inputs.now) (g.I.Inputs.state c.fill.new.inputs) c.in-Err.ensures.inputs
