use Rattle.std.proofs.Common.{refl}
use Rattle.kt_event.specs.Loading.{loads_outputs, loads_policytc, loads_programme}
use Rattle.kt_event.specs.Needs.{chain_need}
use Rattle.kt_tables.specs.Portfolio.{PortfolioRows}
use Rattle.kt_fmtree.specs.Programme.{tree_of}
use Rattle.kt_split.proofs.laws.loss_facts.Goals as goal

pub returns : goal.returns
returns c = record {
  facts = λ files terms rows are insured loads.
      let portfolio : PortfolioRows = record { rows = rows; need = chain_need terms } in
      let valid = c.rows_that_load_are_a_portfolio.ensures files (chain_need terms) rows loads in
      let programme = loads_programme terms (chain_need terms) refl are insured in
      record {
        ground_up = c.ground_up_facts.ensures.facts files terms rows are loads;
        insured = record {
          within = c.insured_losses_keep_the_limit.ensures.within portfolio
              (record { valid = valid; programme = programme; terms = loads_policytc terms (chain_need terms) refl are insured; outputs = loads_outputs terms (chain_need terms) refl are insured });
          good = c.insured_losses_are_records_of_a_stream.ensures.good portfolio valid programme terms.rule;
          event = λ samples. c.insured_losses_are_a_run.ensures.event (tree_of rows 0) terms.rule samples rows.fm_xref;
          rising = λ samples. c.insured_losses_are_a_run.ensures.rising (tree_of rows 0) terms.rule samples rows.fm_xref;
          known = λ samples. c.insured_losses_are_a_run.ensures.known (tree_of rows 0) terms.rule samples rows.fm_xref;
        };
        net = record {
          good = c.net_losses_are_records_of_a_stream.ensures.good;
          within = c.net_losses_are_records_of_a_stream.ensures.within;
          event = c.net_losses_are_a_run.ensures.event;
          rising = c.net_losses_are_a_run.ensures.rising;
          known = c.net_losses_are_a_run.ensures.known;
        };
      };
}
