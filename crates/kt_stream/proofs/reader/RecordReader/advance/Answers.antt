use Rattle.std.proofs.Common.{◌-◌, take, drop, arith}
use Rattle.std.proofs.lemmas.List.{drop-drop, length-drop, length-take-le, take_rest}
use Rattle.kt_stream.proofs.Heading.{few_samples}
use Rattle.kt_stream.proofs.Advancing.{record_reaches, advances_one, passed_more, advances_wrong, advances_row, short_none, waits_none}
use Rattle.kt_stream.proofs.reader.RecordReader.advance.Goals as goal

pub end_of_piece-requires-clause-none : goal.end_of_piece-requires-clause-none
end_of_piece-requires-clause-none g c =
    let r = c.self.inside in
    let waits = rw (c.in_default.is, c.in_default-head.is) at c.self.invariant.3.waits in
    rw (← c.self.view_is, c.in_default-head.is) (waits_none g.E.Entry.form r.shape r.row (take (r.used - r.from) (drop r.from (take r.end r.block.items))) r.start (drop r.used (take r.end r.block.items)) waits)

pub end_of_piece-requires-in-Short-clause-none : goal.end_of_piece-requires-in-Short-clause-none
end_of_piece-requires-in-Short-clause-none g c =
    let r = c.self.inside in
    let read = rw (c.within_limit-bytes.ensures.value, c.as_slice.ensures.value, take_rest, c.in-Short.is) at c.in_ok-size.ensures.value in
    rw c.in-Some-head.is (short_none g.E.Entry.form r.shape c.in-Some-head.head r.row (take (r.used - r.from) (drop r.from (take r.end r.block.items))) r.start (drop r.used (take r.end r.block.items)) read)

pub returns-in-Got : goal.returns-in-Got
returns-in-Got g c =
    let r = c.self.inside in
    let read = rw (c.within_limit-bytes.ensures.value, c.as_slice.ensures.value, take_rest, c.in-Got.is) at c.in_ok-size.ensures.value in
    let good = rw c.in-Some-head.is at c.self.invariant.3.head in
    record {
      value = rw (← c.self.view_is, c.in-Some-head.is, c.in_default.is) (rw (drop-drop c.in-Got.size r.used (take r.end r.block.items)) at (advances_one g.E.Entry.form r.shape c.in-Some-head.head r.row _ r.start c.in-Got.size (drop r.used (take r.end r.block.items)) c.read_into.new.self c.laws.ensures.value good c.self.invariant.3.start read.0 read.1 _ (passed_more r.from r.used c.in-Got.size (take r.end r.block.items) c.self.invariant.0) (rw (c.within_limit-bytes.ensures.value, c.as_slice.ensures.value, take_rest) at c.within_limit-bytes.ensures.bytes)));
      kept = tt;
    }

pub returns-in-Wrong : goal.returns-in-Wrong
returns-in-Wrong g c =
    let r = c.self.inside in
    let read = rw (c.within_limit-bytes.ensures.value, c.as_slice.ensures.value, take_rest, c.in-Wrong.is) at c.in_ok-size.ensures.value in
    record {
      value = rw (← c.self.view_is, c.of_record-stop.ensures, c.in-Some-head.is, c.in_default.is) (advances_wrong g.E.Entry.form r.shape c.in-Some-head.head r.row _ _ r.start (drop r.used (take r.end r.block.items)) c.in-Wrong.misfit c.laws.ensures.value read);
      kept = tt;
    }

pub returns-in-Short : goal.returns-in-Short
returns-in-Short g c =
    let r = c.self.inside in
    let ends = rw c.in_default.is at c.end_of_piece-in-Short.ensures in
    record { kept = tt; value = rw (← c.self.view_is, c.in_default.is) (advances_row g.E.Entry.IsGood g.E.Entry.form r.shape r.head r.row _ _ r.start (drop r.used (take r.end r.block.items)) c.end_of_piece-in-Short.result c.end_of_piece-in-Short.new.self ends) }

pub invariant_of-self : goal.invariant_of-self
invariant_of-self g c =
    let is = c.self.invariant in
    (is.0, is.1, is.2, record { head = is.3.head; start = is.3.start; waits = is.3.waits })

pub invariant_of-self-in-Short : goal.invariant_of-self-in-Short
invariant_of-self-in-Short g c =
    let is = c.self.invariant in
    (is.0, is.1, is.2, record { head = is.3.head; start = is.3.start; waits = is.3.waits })

pub invariant_of-self-in-Wrong : goal.invariant_of-self-in-Wrong
invariant_of-self-in-Wrong g c =
    let is = c.self.invariant in
    (is.0, is.1, is.2, record { head = is.3.head; start = is.3.start; waits = tt })

pub read_into-requires-clause-samples : goal.read_into-requires-clause-samples
read_into-requires-clause-samples g c = few_samples c.self.inside.shape.kind c.in-Some-head.head (rw c.in-Some-head.is at c.self.invariant.3.head)

pub invariant_of-self-in-Got : goal.invariant_of-self-in-Got
invariant_of-self-in-Got g c =
    let r = c.self.inside in
    let is = c.self.invariant in
    let block = take r.end r.block.items in
    let read = rw (c.within_limit-bytes.ensures.value, c.as_slice.ensures.value, take_rest, c.in-Got.is) at c.in_ok-size.ensures.value in
    let reaches = record_reaches g.E.Entry.form r.shape c.in-Some-head.head.samples r.start c.in-Got.size (drop r.used block) c.read_into.new.self c.laws.ensures.value is.3.start read.0 read.1 in (
      omega (arith, is.0),
      omega (arith, reaches.long, is.1, length-drop r.used block, length-take-le r.end r.block.items is.2),
      is.2,
      record { head = is.3.head; start = reaches.within; waits = rw (c.in_default.is, c.in-Some-head.is) tt },
    )
