use Rattle.kt_rec.specs.Rows.{rows_of}
use Rattle.kt_tables.proofs.KeptLemmas.{tivs_made}
use Rattle.kt_tables.proofs.lookups.summaries.SummaryLookups.new.Goals as goal

pub of_items-requires-clause-tivs : goal.of_items-requires-clause-tivs
of_items-requires-clause-tivs c = tivs_made (rows_of c.args.tables.now) c.deref.result.now c.in_ok-tivs.tivs c.deref.ensures.value c.in_ok-tivs.ensures.value

pub of_outputs-requires-clause-tivs : goal.of_outputs-requires-clause-tivs
of_outputs-requires-clause-tivs c = tivs_made (rows_of c.args.tables.now) c.deref.result.now c.in_ok-tivs.tivs c.deref.ensures.value c.in_ok-tivs.ensures.value

pub returns : goal.returns
returns c = record {
  value = record {
    tivs = tivs_made (rows_of c.args.tables.now) c.deref.result.now c.in_ok-tivs.tivs c.deref.ensures.value c.in_ok-tivs.ensures.value;
    of_items = c.in_ok-of_items.ensures.value c.args.rule;
    of_outputs = c.in_ok-of_outputs.ensures.value;
  };
}
