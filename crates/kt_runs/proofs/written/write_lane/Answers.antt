use Rattle.std.proofs.Common.{◌++◌, ◌∙◌, List, ap, arith, slice_index, subst, sym, refl}
use Rattle.kt_runs.specs.PairRoom.{AreEnded, AreIn, with_loss}
use Rattle.kt_stream.specs.declared.entry.Pair.{Pair}
use Rattle.kt_runs.specs.LaneRows.{pairs_by_row}
use Rattle.kt_runs.proofs.PairLemmas.{more-row}
use Rattle.kt_runs.proofs.written.write_lane.Goals as goal

pub loop-row-init : goal.loop-row-init
loop-row-init c = record { room = refl; few = omega arith; are = record { used_is = refl; bytes_are = refl } }

pub loop-row-preserved : goal.loop-row-preserved
loop-row-preserved c =
    let here = c.loop-row.invariant in
    let pairs = pairs_by_row (slice_index c.args.lane.now) c.loop-row.row in
    record {
      room = c.keep_pair-used.ensures.room ∙ here.room;
      few = omega (arith, here.few, c.keep_pair-used.ensures.few);
      are = subst (λ (pairs : List Pair). AreIn pairs c.keep_pair-used.result c.keep_pair-used.new.room) (ap (λ (pair : Pair). pairs ++ with_loss pair) c.pair_at.ensures.value ∙ sym (more-row (slice_index c.args.lane.now) c.loop-row.row)) (c.keep_pair-used.ensures.kept pairs here.are);
    }

pub returns-clause-value : goal.returns-clause-value
returns-clause-value c = subst (λ n. AreEnded (pairs_by_row (slice_index c.args.lane.now) n) c.end_pairs.result c.end_pairs.new.room) (omega (arith, c.loop-row-test.false, c.loop-row.auto.row-end)) (c.end_pairs.ensures.ended (pairs_by_row (slice_index c.args.lane.now) c.loop-row.row) c.loop-row.invariant.are)
