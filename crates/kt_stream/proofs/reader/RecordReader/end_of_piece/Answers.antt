use Rattle.std.proofs.Common.{◌≡◌, ◌≤◌, ◌<◌, ◌-◌, None, length, drop, ap, ◌∙◌, take}
use Rattle.std.proofs.lemmas.List.{take_rest}
use Rattle.kt_stream.specs.Stream.{stream_limit}
use Rattle.kt_stream.specs.Reader.{Reading}
use Rattle.kt_stream.proofs.Advancing.{needs_more, too_long_stop}
use Rattle.kt_stream.proofs.reader.RecordReader.end_of_piece.Goals as goal

pub returns-then-pending-self : goal.returns-then-pending-self
returns-then-pending-self g c =
    let r = c.self.inside in
    let running : r.stop ≡ None = ap (λ (r : Reading g.row.E.Denot). r.stop) c.self.view_is ∙ c.requires.running in
    let none = rw (← c.self.view_is) at c.requires.none in
    let fits : length (drop r.used (take r.end r.block.items)) ≤ stream_limit - r.start = rw (c.as_slice.ensures.value, take_rest) at c.if-pending-self.true in
    rw (← c.self.view_is, running) (needs_more g.E.Entry.form r.shape r.head r.row _ r.start (drop r.used (take r.end r.block.items)) none c.self.invariant.3.start fits)

pub returns : goal.returns
returns g c =
    let r = c.self.inside in
    let running : r.stop ≡ None = ap (λ (r : Reading g.row.E.Denot). r.stop) c.self.view_is ∙ c.requires.running in
    let none = rw (← c.self.view_is) at c.requires.none in
    let beyond : stream_limit - r.start < length (drop r.used (take r.end r.block.items)) = rw (c.as_slice.ensures.value, take_rest) at c.if-pending-self.false in
    rw (← c.self.view_is, running) (too_long_stop g.E.Entry.form r.shape r.head r.row _ r.start (drop r.used (take r.end r.block.items)) none beyond)
