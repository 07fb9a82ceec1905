use Rattle.std.proofs.Common.{◌++◌, ◌∙◌, List, ℕ, ap, arith}
use Rattle.kt_front.proofs.Reading.{stopped_behind}
use Rattle.kt_front.proofs.TextReading.{front_more}
use Rattle.kt_front.proofs.text_source.read_plain.Goals as goal

pub returns-in-Err-clause-stopped : goal.returns-in-Err-clause-stopped
returns-in-Err-clause-stopped g c =
    let read = c.parts.invariant.front in
    stopped_behind c.parts.left c.args.most (g.S.Source.state c.args.source.now) (g.S.Source.state c.parts.source) (g.S.Source.state c.read_behind_kept.new.source) read.more c.in-Err.stop read.fed read.few (c.in-Err.ensures.stopped c.parts.left)

pub parts-preserved : goal.parts-preserved
parts-preserved g c =
    let kept = c.in_ok-extend_from_slice.ensures.items ∙ ap (λ (xs : List ℕ). xs ++ c.in_ok-front.front.rest.now) c.clear.ensures.items in
    record {
      front = rw kept (front_more (g.K.RowSink.takes_to c.args.kinds.now) c.args.kinds.now c.args.ordered (g.S.Source.state c.args.source.now) (g.S.Source.state c.parts.source) (g.S.Source.state c.read_behind_kept.new.source) c.args.sink.now c.parts.sink c.read_front.new.sink c.args.kept.now.items c.parts.kept.items _ c.in_ok-front.front.rest.now c.parts.count c.parts.floor c.args.most c.parts.left c.in_ok-front.front.count c.in_ok-front.front.floor c.in-Ok.read
          c.parts.invariant.front (rw c.as_slice.ensures.value at c.in-Ok.ensures.part) (omega (arith, c.if-read-left.false)) (rw (c.len-size.ensures, c.parts.kept.ok.0) at c.in_ok-front.ensures.value) (rw (c.len-size.ensures, c.parts.kept.ok.0) at c.in_ok-front.ensures.within));
      room = c.in-Ok.ensures.room ∙ c.parts.invariant.room;
    }
