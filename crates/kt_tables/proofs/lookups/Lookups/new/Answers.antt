use Rattle.kt_tables.proofs.lookups.Lookups.new.Goals as goal

pub returns : goal.returns
returns c = record {
  value = record {
    periods = c.in_ok-new.ensures.value;
    items = c.in_ok-new-2.ensures.value;
    hazard = c.in_ok-new-3.ensures.value;
    summaries = c.in_ok-new-4.ensures.value;
  };
}
