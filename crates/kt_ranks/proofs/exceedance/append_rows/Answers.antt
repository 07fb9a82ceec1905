-- One return period more.
use Rattle.std.proofs.Common.{◌≤◌, get_or, arith}
use Rattle.std.proofs.lemmas.Grind.{common_steps}
use Rattle.kt_ranks.specs.SelectLaws.{rows_more}
use Rattle.kt_ranks.proofs.RowLemmas.{begins_more}
use Rattle.kt_ranks.proofs.exceedance.append_rows.Goals as goal

pub exceedance_loss-loss-requires-clause-some : goal.exceedance_loss-loss-requires-clause-some
exceedance_loss-loss-requires-clause-some c = grind (arith, common_steps)

pub loop-period-preserved : goal.loop-period-preserved
loop-period-preserved c = record {
  rows = λ values has.
      let low : get_or c.args.returns.now c.loop-period.period-index 0 ≤ c.args.count = omega (arith, c.if-from-count.false, c.from.ensures) in
      rows_more c.args.summary c.args.column c.args.count values c.args.returns.now c.loop-period.period-index c.exceedance_loss-loss.result c.args.out.now c.loop-period.out _ c.loop-period-test.true low
      (c.exceedance_loss-loss.ensures.value values (has c.loop-period.period-index 0 c.loop-period-test.true low)) (c.loop-period.invariant.rows values has) c.in_ok-append_row.ensures.ok;
  begins = begins_more c.args.out.now c.loop-period.out _ c.append_row.new.out c.loop-period.invariant.begins c.in_ok-append_row.ensures.ok;
}

pub loop-period-preserved-then-from-count : goal.loop-period-preserved-then-from-count
loop-period-preserved-then-from-count c = record { rows = grind (arith, common_steps); begins = c.loop-period.invariant.begins }
