use Rattle.kt_loop.specs.ByRun.{closing}
use Rattle.kt_losses.specs.Judged.{judged_runs}
use Rattle.kt_losses.specs.Summed.{table_of_set}
use Rattle.kt_losses.proofs.SummingLemmas.{ends_by, ends_step}
use Rattle.kt_losses.proofs.summing.SummedLossesStageLossRecordUnit.end.Goals as goal

pub returns-clause-end : goal.returns-clause-end
returns-clause-end c = λ state at.
    let it = c.args.self.now in
    ends_by (closing (judged_runs table_of_set) c.args.head state.kept state.run) c.args.out.now c.close.new.out _ c.close.result c.close.ensures.closed
    (λ closed. ends_step c.args.head it.of it.portfolio.now state.kept c.args.out.now c.close.new.out state.run at.0 (closed it.portfolio.now it.of state.run at.1).0)
    c.close.ensures.memory
