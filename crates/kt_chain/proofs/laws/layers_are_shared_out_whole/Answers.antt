use Rattle.std.proofs.Common.{◌≡◌, List, ap, refl, true}
use Rattle.std.specs.Prelude.{All}
use Rattle.std.proofs.lemmas.List.Elements.{All-from_recursion}
use Rattle.kt_event.specs.Loading.{loads_outputs, loads_policytc, loads_programme}
use Rattle.kt_event.specs.Losses.{layers_up_to}
use Rattle.kt_event.specs.Needs.{chain_need}
use Rattle.kt_block.specs.Terms.{AreTerms, has_insured}
use Rattle.kt_block.specs.declared.terms.Terms.{Terms}
use Rattle.kt_alloc.specs.InsuredTables.{HasInsuredTables}
use Rattle.kt_alloc.specs.Whole.{IsSharedOut}
use Rattle.kt_block.specs.declared.layer_sum.LayerSum.{LayerSum}
use Rattle.kt_rec.specs.Rows.{Rows}
use Rattle.kt_rec.specs.declared.perspective.Perspective.{Perspective}
use Rattle.kt_rec.specs.declared.perspective.Perspective.TheVariants.{Gul, Il, Ri}
use Rattle.kt_stream.specs.declared.entry.LossRecord.{LossRecord}
use Rattle.kt_tables.specs.Portfolio.{IsPortfolio}
use Rattle.kt_chain.specs.Events.{event_losses, run_input}
use Rattle.kt_chain.proofs.laws.layers_are_shared_out_whole.Goals as goal

-- what is allocated of a layer is its policy loss
abbrev IsWhole : LayerSum → Type 0
IsWhole entry = entry.allocated ≡ entry.policy

-- the tables of insured losses are loaded in a run that has some
insured_tables : (terms : Terms) (rows : Rows) → AreTerms terms → has_insured terms.last ≡ true → IsPortfolio (record { rows = rows; need = chain_need terms }) → HasInsuredTables (record { rows = rows; need = chain_need terms })
insured_tables terms rows are has valid = record {
  valid = valid;
  programme = loads_programme terms (chain_need terms) refl are has;
  terms = loads_policytc terms (chain_need terms) refl are has;
  outputs = loads_outputs terms (chain_need terms) refl are has;
}

-- up to whichever losses a run goes
upto_whole : (last : Perspective) (terms : Terms) (rows : Rows) (losses : List LossRecord) → terms.last ≡ last → (has_insured terms.last ≡ true → IsSharedOut rows terms.rule terms.samples losses) → All IsWhole (layers_up_to last terms rows losses)
upto_whole Gul terms rows losses is shared = All-from_recursion IsWhole (layers_up_to Gul terms rows losses) tt
upto_whole Il terms rows losses is shared = (shared (ap has_insured is)).sums
upto_whole Ri terms rows losses is shared = (shared (ap has_insured is)).sums

pub returns-clause-layers : goal.returns-clause-layers
returns-clause-layers c = λ files terms rows are loads event.
    let losses = event_losses (run_input terms rows files) event in
    let valid = c.rows_that_load_are_a_portfolio.ensures files (chain_need terms) rows loads in
    upto_whole terms.last terms rows losses refl (λ has. c.losses_are_shared_out_whole.ensures (record { rows = rows; need = chain_need terms }) (insured_tables terms rows are has valid) terms.samples losses)

pub returns-clause-shared : goal.returns-clause-shared
returns-clause-shared c = λ files terms rows are loads has event.
    let valid = c.rows_that_load_are_a_portfolio.ensures files (chain_need terms) rows loads in
    c.losses_are_shared_out_whole.ensures (record { rows = rows; need = chain_need terms }) (insured_tables terms rows are has valid) terms.samples (event_losses (run_input terms rows files) event)
