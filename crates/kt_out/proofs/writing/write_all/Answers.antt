use Rattle.std.proofs.Common.{◌≤◌, ◌<◌, ◌-◌, length, arith, length-drop, ◌∙◌}
use Rattle.std.proofs.lemmas.List.{take_rest}
use Rattle.kt_out.proofs.WritingLemmas.{gains_more}
use Rattle.kt_out.proofs.writing.write_all.Goals as goal

pub loop-done-preserved : goal.loop-done-preserved
loop-done-preserved g c =
    let more = c.in_ok-done.field-0 in
    let wrote = rw (take_rest c.args.piece.now c.loop-done.done) at c.in_ok-done.ensures.moved in
    let some : 0 < more = c.in_ok-done.ensures.within.0 in
    let fits : more ≤ length c.args.piece.now - c.loop-done.done =
    omega (arith, rw (take_rest c.args.piece.now c.loop-done.done, length-drop c.loop-done.done c.args.piece.now) at c.in_ok-done.ensures.within.1) in
    record {
      within = omega arith;
      gained = gains_more _ _ _ _ _ _ c.loop-done.invariant.gained wrote.moved;
      counted = wrote.counted ∙ c.loop-done.invariant.counted;
      untouched = λ none. absurd (omega arith);
    }
