use Rattle.std.proofs.Common.{length, slice_index}
use Rattle.std.proofs.lemmas.Result.{IfOk-weaker}
use Rattle.kt_runs.specs.LaneRows.{pairs_by_row}
use Rattle.kt_runs.proofs.written.put_lane.Goals as goal

pub returns-clause-ok : goal.returns-clause-ok
returns-clause-ok c = IfOk-weaker c.put_pairs.result _ _ (λ (_ : Unit {0}) put. put (pairs_by_row (slice_index c.args.lane.now) (length c.args.lane.now)) c.write_lane-used.ensures.value) c.put_pairs.ensures.ok
