use Rattle.std.proofs.Common.{◌∙◌, ◌++◌, List, map, ap, refl}
use Rattle.kt_event.specs.Losses.{summaries_of}
use Rattle.kt_block.specs.Terms.{sets_of}
use Rattle.kt_block.specs.declared.block.Summaries.{Summaries}
use Rattle.kt_rec.specs.declared.perspective.Perspective.TheVariants.{Gul}
use Rattle.kt_event.proofs.BlockLemmas.{all_summaries, block_is, of_perspective, rule_is}
use Rattle.kt_event.proofs.event.block_of.Goals as goal

pub returns-clause-value : goal.returns-clause-value
returns-clause-value c =
    let terms = c.args.plan.now.terms in
    let rows = c.args.portfolio.now.rows in
    block_is terms rows c.args.losses.records c.args.event c.put_output_summaries.new.made c.in_ok-layers.layers
    (all_summaries terms rows c.args.losses.records c.put_summaries.new.made c.put_output_summaries.new.made
    (c.in_ok-put_summaries.ensures.ok
    ∙ ap (λ (before : List Summaries). before ++ map (summaries_of rows c.args.portfolio.now.need.rule c.args.losses.records) (sets_of rows Gul)) c.new-summaries.ensures.value
    ∙ of_perspective terms rows c.args.losses.records Gul c.args.portfolio.now.need.rule c.args.losses.records (rule_is terms c.args.portfolio.now.need c.requires.plan.need) refl)
    c.in_ok-layers.ensures.ok)
    c.in_ok-layers.ensures.layers
