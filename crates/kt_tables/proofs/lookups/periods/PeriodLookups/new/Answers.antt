use Rattle.std.proofs.Common.{◌∙◌, ap, map, nat_eq}
use Rattle.std.specs.List.{filter}
use Rattle.kt_rec.specs.declared.periods.ReturnPeriod.{ReturnPeriod}
use Rattle.kt_tables.proofs.lookups.periods.PeriodLookups.new.Goals as goal

pub returns : goal.returns
returns c = record {
  value = record {
    occurrences = λ event. c.in_ok-new.ensures.kept event ∙ ap (filter (λ row. nat_eq row.event_id event)) c.deref.ensures.value;
    return_periods = c.in_ok-keys_of.ensures.value ∙ ap (map (λ (row : ReturnPeriod). row.return_period)) c.deref-2.ensures.value;
  };
}
