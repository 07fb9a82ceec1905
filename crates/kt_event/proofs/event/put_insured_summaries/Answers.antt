use Rattle.std.proofs.Common.{◌≡◌, ◌∙◌, ◌++◌, ℕ, List, ap, sym, subst}
use Rattle.kt_event.specs.Losses.{losses_of}
use Rattle.kt_block.specs.declared.block.Summaries.{Summaries}
use Rattle.kt_alloc.specs.Insured.{insured_records}
use Rattle.kt_rec.specs.declared.perspective.Perspective.TheVariants.{Il}
use Rattle.kt_runs.specs.RunLosses.{AreWithin}
use Rattle.kt_fmtree.specs.Programme.{tree_of}
use Rattle.kt_event.proofs.BlockLemmas.{layers_are, of_perspective, output_summaries, rule_is}
use Rattle.kt_event.specs.Loading.{loads_outputs, loads_policytc, loads_programme}
use Rattle.kt_event.proofs.event.put_insured_summaries.Goals as goal

pub insured_losses_are_within-requires-clause-programme : goal.insured_losses_are_within-requires-clause-programme
insured_losses_are_within-requires-clause-programme c = loads_programme c.args.plan.now.terms c.args.portfolio.now.need c.requires.plan.need c.requires.plan.terms c.requires.insured

pub insured_losses_are_within-requires-clause-terms : goal.insured_losses_are_within-requires-clause-terms
insured_losses_are_within-requires-clause-terms c = loads_policytc c.args.plan.now.terms c.args.portfolio.now.need c.requires.plan.need c.requires.plan.terms c.requires.insured

pub insured_losses_are_within-requires-clause-outputs : goal.insured_losses_are_within-requires-clause-outputs
insured_losses_are_within-requires-clause-outputs c = loads_outputs c.args.plan.now.terms c.args.portfolio.now.need c.requires.plan.need c.requires.plan.terms c.requires.insured

pub put_summaries-requires-clause-within : goal.put_summaries-requires-clause-within
put_summaries-requires-clause-within c =
    let terms = c.args.plan.now.terms in
    let rows = c.args.portfolio.now.rows in
    let made : c.in_ok-insured.insured.losses.records ≡ insured_records (tree_of rows 0) terms.rule terms.samples rows.fm_xref c.args.losses.records = c.in_ok-insured.ensures.records in
    subst AreWithin (sym (made ∙ ap (λ (rule : ℕ). insured_records (tree_of rows 0) rule terms.samples rows.fm_xref c.args.losses.records) (sym (rule_is terms c.args.portfolio.now.need c.requires.plan.need)))) (c.insured_losses_are_within.ensures.within terms.samples c.args.losses.records c.requires.within)

pub put_net_summaries-requires-clause-within : goal.put_net_summaries-requires-clause-within
put_net_summaries-requires-clause-within c =
    let terms = c.args.plan.now.terms in
    let rows = c.args.portfolio.now.rows in
    let made : c.in_ok-insured.insured.losses.records ≡ insured_records (tree_of rows 0) terms.rule terms.samples rows.fm_xref c.args.losses.records = c.in_ok-insured.ensures.records in
    subst AreWithin (sym (made ∙ ap (λ (rule : ℕ). insured_records (tree_of rows 0) rule terms.samples rows.fm_xref c.args.losses.records) (sym (rule_is terms c.args.portfolio.now.need c.requires.plan.need)))) (c.insured_losses_are_within.ensures.within terms.samples c.args.losses.records c.requires.within)

pub returns-clause-layers : goal.returns-clause-layers
returns-clause-layers c =
    let terms = c.args.plan.now.terms in
    let rows = c.args.portfolio.now.rows in
    c.in_ok-insured.ensures.layers ∙ layers_are terms rows c.args.losses.records terms.last c.requires.insured

pub returns-clause-ok : goal.returns-clause-ok
returns-clause-ok c =
    let terms = c.args.plan.now.terms in
    let rows = c.args.portfolio.now.rows in
    let made : c.in_ok-insured.insured.losses.records ≡ losses_of terms rows c.args.losses.records Il = c.in_ok-insured.ensures.records in
    output_summaries terms rows c.args.losses.records c.args.made.now c.put_summaries.new.made c.put_net_summaries.new.made c.requires.insured
    (c.in_ok-put_summaries.ensures.ok ∙ ap (λ (xs : List Summaries). c.args.made.now ++ xs) (of_perspective terms rows c.args.losses.records Il c.args.portfolio.now.need.rule c.in_ok-insured.insured.losses.records (rule_is terms c.args.portfolio.now.need c.requires.plan.need) made))
    (c.in_ok-put_net_summaries.ensures.ok c.args.losses.records made)
