use Rattle.std.proofs.Common.{refl, ◌∙◌}
use Rattle.kt_gul.proofs.event.put_struck.Goals as goal

pub put_written-requires-clause-rising : goal.put_written-requires-clause-rising
put_written-requires-clause-rising c = c.if-is_by_id.ensures.rising refl

pub returns-clause-ok : goal.returns-clause-ok
returns-clause-ok c = rw (c.as_slice.ensures.value ∙ (c.in_ok-records.ensures.value ∙ c.in_ok-lanes.ensures.value)) at c.put_records.ensures.ok
