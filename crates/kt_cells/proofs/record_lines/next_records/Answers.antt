use Rattle.std.proofs.Common.{◌≡◌, ◌+◌, ◌*◌, ap, arith, sym, take, ◌∙◌}
use Rattle.std.proofs.Math.ListN.{length-set}
use Rattle.std.proofs.Math.Nat.{mul-le-mul_right}
use Rattle.std.proofs.lemmas.Result.{err_from_is_err_and}
use Rattle.kt_cells.specs.Reading.{behind}
use Rattle.kt_cells.proofs.ReadingLemmas.{behind-nil}
use Rattle.kt_cells.proofs.RecordLemmas.{rows-more, some-left}
use Rattle.kt_cells.proofs.record_lines.next_records.Goals as goal

pub loop-count-init : goal.loop-count-init
loop-count-init g c =
    let here : c.args.before + 0 ≡ c.args.before = omega arith in
    record { so_far = rw here (sym (behind-nil _)); room = c.told-rows; within = omega arith; most = omega arith }

pub next_record-requires : goal.next_record-requires
next_record-requires g c =
    (omega (arith, c.requires.size), (omega (arith, c.requires.size), (c.requires.size, (c.requires.first, (c.requires.width, (c.requires.wide, (some-left _ c.if-not-is_empty.ensures, omega (arith, c.requires.room, c.loop-count.invariant.within))))))))

pub returns-in_err-rest-clause-refused : goal.returns-in_err-rest-clause-refused
returns-in_err-rest-clause-refused g c =
    let p = err_from_is_err_and c.from_residual.result c.from_residual.ensures.1 in
    rw (p.1, p.2) (c.loop-count.invariant.so_far ∙ ap (behind (take c.loop-count.count c.loop-count.rows)) c.in_err-rest.ensures.refused)

pub loop-count-preserved : goal.loop-count-preserved
loop-count-preserved g c = record {
  so_far = rows-more c.args.before c.args.first c.args.kinds.now c.loop-count.rest.now c.in_ok-rest.rest.now c.loop-count.rows c.loop-count.count c.next_record.new.values _
      (omega (arith, c.loop-count-test.true, c.loop-count.invariant.room, c.rows_at_once-most.ensures.most)) c.loop-count.invariant.so_far c.in_ok-rest.ensures.next;
  room = simp length-set c.loop-count.invariant.room;
  within = omega (arith, c.loop-count.invariant.within, c.in_ok-rest.ensures.shorter);
  most = omega (arith, c.loop-count-test.true);
}

pub returns-clause-next : goal.returns-clause-next
returns-clause-next g c = c.loop-count.invariant.so_far

pub returns-clause-shorter : goal.returns-clause-shorter
returns-clause-shorter g c = c.loop-count.invariant.within

pub returns-clause-count : goal.returns-clause-count
returns-clause-count g c = omega (arith, c.loop-count.invariant.most, c.rows_at_once-most.ensures.most)

pub returns-clause-fit : goal.returns-clause-fit
returns-clause-fit g c =
    let most = mul-le-mul_right (g.row.N * 24 + 22) c.loop-count.invariant.most in
    omega (arith, most, c.rows_at_once-most.ensures.room)
