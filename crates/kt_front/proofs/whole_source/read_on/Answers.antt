use Rattle.std.proofs.Common.{◌++◌, ◌∙◌, List, ℕ, ap, arith, append_assoc, length-append}
use Rattle.kt_front.proofs.Reading.{fed_then, stopped_behind}
use Rattle.kt_front.proofs.whole_source.read_on.Goals as goal

pub returns-in-Err-clause-stopped : goal.returns-in-Err-clause-stopped
returns-in-Err-clause-stopped g c =
    let read = c.turns.invariant in
    stopped_behind c.turns.left c.args.most (g.S.Source.state c.args.source.now) (g.S.Source.state c.turns.source) (g.S.Source.state c.read_part.new.source) read.more c.in-Err.stop read.fed read.few (c.in-Err.ensures.stopped c.turns.left)

pub turns-preserved : goal.turns-preserved
turns-preserved g c =
    let read = c.turns.invariant in
    let part = c.in-Ok.ensures.part in
    record {
      more = read.more ++ part.part;
      appended = part.appended ∙ ap (λ (xs : List ℕ). xs ++ part.part) read.appended ∙ append_assoc c.args.bytes.now.items read.more part.part;
      fed = fed_then read.fed part.fed;
      few = omega (arith, length-append read.more part.part, read.few, part.counted, c.if-read-left.false);
      turned = omega (arith, length-append read.more part.part, read.turned, part.counted, c.if-read-eq0.false);
      room = omega (arith, read.room, c.in-Ok.ensures.room);
    }
