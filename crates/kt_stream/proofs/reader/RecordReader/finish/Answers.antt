use Rattle.std.proofs.Common.{None, Some, drop, take}
use Rattle.std.proofs.lemmas.List.{take_rest}
use Rattle.kt_stream.proofs.Advancing.{open_ends}
use Rattle.kt_stream.proofs.reader.RecordReader.finish.Goals as goal

pub returns-in-None : goal.returns-in-None
returns-in-None g c =
    let r = c.self.inside in
    let dry = rw (← c.self.view_is, c.in_default.is) at c.requires in
    let fault = rw (c.as_slice.ensures.value, take_rest) at c.in-None.ensures.value in
    record { exact = rw (← c.self.view_is, c.in_default.is) (open_ends g.E.Entry.form r.shape r.head r.row _ r.start (drop r.used (take r.end r.block.items)) None dry fault) }

pub returns-in-Some-cut_at : goal.returns-in-Some-cut_at
returns-in-Some-cut_at g c =
    let r = c.self.inside in
    let dry = rw (← c.self.view_is, c.in_default.is) at c.requires in
    let fault = rw (c.as_slice.ensures.value, take_rest) at c.in-Some-cut_at.ensures.value in
    record { exact = rw (← c.self.view_is, c.in_default.is) (open_ends g.E.Entry.form r.shape r.head r.row _ r.start (drop r.used (take r.end r.block.items)) (Some c.in-Some-cut_at.stop) dry fault) }
