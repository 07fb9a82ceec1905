-- With what the events that are left give, the blocks so far are those of the part.
use Rattle.std.proofs.Common.{◌≡◌, drop, take}
use Rattle.std.specs.List.{AllByRecursion}
use Rattle.kt_block.specs.Block.{AreSummaries}
use Rattle.kt_event.specs.Plan.{terms_of}
use Rattle.kt_chain.specs.Rounds.{part_of}
use Rattle.kt_chain.proofs.WorkLemmas.{behind as behind_blocks}
use Rattle.kt_chain.proofs.work.part_between.Given as goal

abbrev pub invariant-loop-n : goal.invariant-loop-n
invariant-loop-n l = record {
  whole : part_of (terms_of l.plan) l.portfolio.rows (drop l.first (take l.behind l.given)) ≡ behind_blocks l.blocks (part_of (terms_of l.plan) l.portfolio.rows (drop l.n (take l.behind l.given)));
  good : AllByRecursion (λ block. AreSummaries (terms_of l.plan).samples block.summaries) l.blocks;
}
