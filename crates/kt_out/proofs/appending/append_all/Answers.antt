use Rattle.std.proofs.Common.{◌≤◌, ◌<◌, ◌-◌, length, take, drop, sym, arith, length-drop, ◌∙◌}
use Rattle.std.proofs.lemmas.List.{take_rest, take-append-drop}
use Rattle.kt_out.proofs.AppendingLemmas.{appends_more, appends_no_more}
use Rattle.kt_out.proofs.appending.append_all.Goals as goal

pub loop-done-preserved : goal.loop-done-preserved
loop-done-preserved g c =
    let more = c.in-Ok.more in
    let moved = rw (take_rest c.args.bytes.now c.loop-done.done) at c.in-Ok.ensures.moved in
    let some : 0 < more = c.in-Ok.ensures.within.0 in
    let within = rw (take_rest c.args.bytes.now c.loop-done.done) at c.in-Ok.ensures.within.1 in
    let fits : more ≤ length c.args.bytes.now - c.loop-done.done = omega (arith, rw (length-drop c.loop-done.done c.args.bytes.now) at within) in
    record {
      within = omega arith;
      added = appends_more _ _ _ _ _ _ _ some within c.loop-done.invariant.added moved;
      counted = c.in-Ok.ensures.counts ∙ c.loop-done.invariant.counted;
      untouched = λ none. absurd (omega arith);
    }

pub returns-in-Err-clause-moved : goal.returns-in-Err-clause-moved
returns-in-Err-clause-moved g c =
    let bytes = c.args.bytes.now in
    let done = c.loop-done.done in
    record {
      front = take done bytes;
      rest = drop done bytes;
      is_front = sym (take-append-drop done bytes);
      added = appends_no_more _ _ _ _ _ _ _ c.loop-done.invariant.added c.in-Err.ensures.moved;
    }
