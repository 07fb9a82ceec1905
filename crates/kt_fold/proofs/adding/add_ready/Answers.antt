-- The records of cells that were taken over are added, none of which is refused.
use Rattle.kt_fold.specs.Added.{block_added}
use Rattle.kt_fold.proofs.FoldLemmas.{none_refused}
use Rattle.kt_fold.proofs.adding.add_ready.Goals as goal

pub returns-in-Ok-true-clause-added : goal.returns-in-Ok-true-clause-added
returns-in-Ok-true-clause-added c = λ history stands.
    let taken = rw c.in-Ok-true.field-0-test at (c.in-Ok-true.ensures.taken history stands) in
    (none_refused history (block_added c.args.portfolio.now.rows c.args.block.now) taken.0, taken.1)
