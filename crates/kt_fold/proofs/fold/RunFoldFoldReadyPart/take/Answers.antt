use Rattle.std.proofs.Common.{subst}
use Rattle.kt_part.specs.Folding.{Takes}
use Rattle.kt_fold.specs.Folds.{StandsBehind, StopsBehind}
use Rattle.kt_fold.specs.declared.part.PartBlock.{PartBlock}
use Rattle.kt_fold.proofs.TakeLemmas.{takes_front, takes_whole}
use Rattle.kt_fold.proofs.fold.RunFoldFoldReadyPart.take.Goals as goal

pub returns-in-Ok-clause-takes : goal.returns-in-Ok-clause-takes
returns-in-Ok-clause-takes c = λ start parts stands.
    subst (λ (part : PartBlock). Takes (StandsBehind start c.keep_whole.new.self) (StopsBehind start c.keep_whole.new.self) parts part c.keep_whole.result) c.split-part.ensures.part
    (takes_whole start parts c.split-part.result.0 c.args.self.now c.self.inside.portfolio.now.rows c.self.inside.cells c.add_blocks.new.cells c.self.inside.kept.items c.as_slice.result.now c.self.view_is c.as_slice.ensures.value c.in-Ok.ensures.size.1 stands
    c.in-Ok.ensures.added c.keep_whole.result c.keep_whole.new.self c.keep_whole.ensures)

pub returns-in-Err-clause-takes : goal.returns-in-Err-clause-takes
returns-in-Err-clause-takes c = λ start parts stands.
    subst (λ (part : PartBlock). StopsBehind start c.keep_front.new.self parts part c.keep_front.result) c.split-part.ensures.part
    (takes_front start parts c.split-part.result.0 c.args.self.now c.self.inside.portfolio.now.rows c.self.inside.cells c.add_blocks.new.cells c.self.inside.kept.items c.as_slice.result.now c.self.view_is c.as_slice.ensures.value c.in-Err.ensures.size.1 stands
    c.in-Err.at c.keep_front.result c.keep_front.new.self c.in-Err.ensures.added c.keep_front.ensures)
