use Rattle.std.proofs.Common.{refl}
use Rattle.kt_event.specs.Loading.{loads_bins}
use Rattle.kt_event.specs.Needs.{chain_need}
use Rattle.kt_gul.proofs.GoodLemmas.{records_good}
use Rattle.kt_gul.proofs.RunLemmas.{records_climb, records_of_event}
use Rattle.kt_gul.proofs.WithinLemmas.{losses_within}
use Rattle.kt_model.proofs.OneRunLemmas.{distributions_climb, distributions_good, distributions_of_event}
use Rattle.kt_sum.proofs.GoodLemmas.{summaries_good}
use Rattle.kt_tables.specs.DamageLaws.{keeps_damage}
use Rattle.kt_tables.specs.Lookups.{exposure_of, summary_in}
use Rattle.kt_tables.specs.PortfolioLaws.{keys_kept, sizes_kept}
use Rattle.kt_tables.specs.Portfolio.{PortfolioRows}
use Rattle.kt_tables.proofs.SummaryLemmas.{summaries_kept}
use Rattle.kt_split.proofs.laws.ground_up_facts.Goals as goal

pub returns : goal.returns
returns c = record {
  facts = λ files terms rows are loads.
      let portfolio : PortfolioRows = record { rows = rows; need = chain_need terms } in
      let valid = c.rows_that_load_are_a_portfolio.ensures files (chain_need terms) rows loads in
      let damage = keeps_damage portfolio valid (loads_bins terms (chain_need terms) refl are) in
      let keys = keys_kept portfolio valid in
      let sums = summaries_kept portfolio valid in
      record {
        are = are;
        reads = record { events = c.what_is_spelled_is_read.ensures; cdfs = c.what_is_spelled_is_read-2.ensures; losses = c.what_is_spelled_is_read-3.ensures; summaries = c.what_is_spelled_is_read-4.ensures };
        together = c.parts_make_the_events.ensures;
        distinct = keys.events;
        in_range = valid.in_range;
        model = record {
          good = λ event foot is none. distributions_good rows event foot valid.in_range.items damage none is;
          event = λ event foot. distributions_of_event rows event foot;
          rising = λ event foot. distributions_climb rows event foot valid.in_range.items;
        };
        gul = record {
          within = λ samples event cut cdfs made sidx. losses_within rows samples cut event cdfs valid.in_range made (sizes_kept portfolio valid).values sidx;
          good = λ samples event cut cdfs is made. records_good rows samples cut event cdfs valid.in_range made is;
          event = λ samples event cut cdfs. records_of_event rows samples cut event cdfs;
          rising = λ samples event cut cdfs. records_climb rows samples cut event cdfs keys.items;
        };
        summaries = record {
          good = λ perspective set samples records within made.
              summaries_good (summary_in perspective rows set) (exposure_of perspective rows terms.rule set)
              (λ id summary is. let known = sums.known perspective set id summary is in (known.least, known.most))
              (sums.exposures perspective set) samples records within made;
        };
      };
}
