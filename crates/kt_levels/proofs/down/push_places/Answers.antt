use Rattle.std.proofs.Common.{◌∙◌, ◌++◌, ◌∷◌, [], ◌+◌, ap, sym, append_assoc}
use Rattle.kt_levels.specs.DownLaws.{range-more}
use Rattle.kt_levels.proofs.down.push_places.Goals as goal

pub loop-at-preserved : goal.loop-at-preserved
loop-at-preserved c =
    c.in_ok-push.ensures.items
    ∙ (ap (λ front. front ++ (c.args.start + c.loop-at.at) ∷ []) c.loop-at.invariant
    ∙ (append_assoc c.args.places.now.items _ _ ∙ ap (λ back. c.args.places.now.items ++ back) (sym (range-more c.args.start c.loop-at.at))))
