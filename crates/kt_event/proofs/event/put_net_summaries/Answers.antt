use Rattle.std.proofs.Common.{◌≡◌, ◌∙◌, ◌++◌, All, List, map, ap, sym, subst}
use Rattle.std.proofs.lemmas.List.Elements.{All-from_recursion}
use Rattle.kt_event.specs.Losses.{losses_of, set_summaries, stage_trees}
use Rattle.kt_block.specs.declared.block.Summaries.{Summaries}
use Rattle.kt_block.specs.declared.terms.SummarySet.{SummarySet}
use Rattle.kt_rec.specs.declared.perspective.Perspective.TheVariants.{Ri}
use Rattle.kt_ri.specs.Reinsurance.{reinsured}
use Rattle.kt_ri.specs.Stages.{AreStages, HasStage}
use Rattle.kt_structure.specs.declared.structure.Structure.{Structure}
use Rattle.kt_event.proofs.BlockLemmas.{of_perspective, rule_is, sets_of_net}
use Rattle.kt_event.proofs.StageLemmas.{have_stages, net_stages}
use Rattle.kt_event.proofs.event.put_net_summaries.Goals as goal

pub reinsure_lanes-requires-clause-stages : goal.reinsure_lanes-requires-clause-stages
reinsure_lanes-requires-clause-stages c =
    subst (λ (stages : List Structure). All HasStage stages) (sym c.deref.ensures.value)
    (All-from_recursion HasStage c.args.plan.now.stages.items
    (have_stages (stage_trees c.args.portfolio.now.rows c.args.plan.now.terms.stages) c.args.plan.now.stages.items
    (net_stages c.args.portfolio.now.rows c.args.plan.now.terms.last c.args.plan.now.terms.stages c.args.plan.now.stages.items (sym c.if-has_net.ensures) c.requires.plan.stages)))

pub returns-in_ok-put_summaries-clause-ok : goal.returns-in_ok-put_summaries-clause-ok
returns-in_ok-put_summaries-clause-ok c losses is =
    let terms = c.args.plan.now.terms in
    let rows = c.args.portfolio.now.rows in
    let trees = stage_trees rows terms.stages in
    let are = net_stages rows terms.last terms.stages c.args.plan.now.stages.items (sym c.if-has_net.ensures) c.requires.plan.stages in
    let net : c.in_ok-net.net.records ≡ reinsured trees terms.samples c.args.insured.records = c.in_ok-net.ensures.net trees (subst (AreStages trees) (sym c.deref.ensures.value) are) in
    let records : c.in_ok-net.net.records ≡ losses_of terms rows losses Ri = net ∙ ap (reinsured trees terms.samples) is in
    c.in_ok-put_summaries.ensures.ok
    ∙ ap (λ (xs : List Summaries). c.args.made.now ++ xs) (of_perspective terms rows losses Ri c.args.portfolio.now.need.rule c.in_ok-net.net.records (rule_is terms c.args.portfolio.now.need c.requires.plan.need) records)
    ∙ ap (λ (sets : List SummarySet). c.args.made.now ++ map (set_summaries terms rows losses) sets) (sym (sets_of_net terms rows losses terms.last (sym c.if-has_net.ensures)))
