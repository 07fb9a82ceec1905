use Rattle.std.proofs.Common.{◌≡◌, ◌-◌, ◌≤◌, None, drop, take, sym, arith}
use Rattle.std.proofs.lemmas.List.{length-take-le}
use Rattle.kt_stream.specs.declared.read.Read.TheVariants.{Got, Short, Wrong}
use Rattle.kt_stream.specs.Header.{header_in, header_size}
use Rattle.kt_stream.specs.Reader.{piece_in}
use Rattle.kt_stream.specs.Stream.{stream_limit}
use Rattle.kt_stream.proofs.Representing.{filled_is, joined_extends, header_extends, header_opens, wrong_extends}
use Rattle.kt_stream.proofs.reader.RecordReader.feed.Goals as goal

pub returns-in-Some-head-clause-fed : goal.returns-in-Some-head-clause-fed
returns-in-Some-head-clause-fed g c =
    let r = c.self.inside in
    let pending = drop r.used (take r.end r.block.items) in
    let now = filled_is pending c.args.block.now.items c.args.upto (rw (← c.self.view_is) at c.requires) in
    rw (← c.self.view_is, c.in_default.is, c.in-Some-head.is, c.swap.ensures.x_after) (joined_extends g.E.Entry.form r.shape _ r.row _ _ r.start pending (piece_in pending c.args.block.now.items c.args.upto) (take c.args.upto c.args.block.now.items) now tt)

pub invariant_of-self-in-Got : goal.invariant_of-self-in-Got
invariant_of-self-in-Got g c =
    let r = c.self.inside in
    let is : header_in r.shape.kind (take (stream_limit - r.start) (take c.args.upto c.args.block.now.items)) ≡ Got c.in-Got.head = sym (rw (c.within_limit.ensures.value, c.as_slice.ensures.value, c.swap.ensures.x_after) at c.in-Got.ensures) in
    let opens = header_opens r.shape.kind c.in-Got.head r.start (take c.args.upto c.args.block.now.items) c.self.invariant.3.start is in
    let long : header_size r.shape.kind ≤ c.args.upto = omega (arith, opens.long, length-take-le c.args.upto c.args.block.now.items c.requires.within) in
    rw (c.header_length-self-inside.ensures, c.in_default.is, c.swap.ensures.x_after) (omega arith, long, c.requires.within, record { head = opens.good; start = opens.within; waits = tt })

pub returns-in-Short-clause-fed : goal.returns-in-Short-clause-fed
returns-in-Short-clause-fed g c =
    let r = c.self.inside in
    let pending = drop r.used (take r.end r.block.items) in
    let now = filled_is pending c.args.block.now.items c.args.upto (rw (← c.self.view_is) at c.requires) in
    let is : header_in r.shape.kind (take (stream_limit - r.start) (take c.args.upto c.args.block.now.items)) ≡ Short = sym (rw (c.within_limit.ensures.value, c.as_slice.ensures.value, c.swap.ensures.x_after) at c.in-Short.ensures) in
    rw (← c.self.view_is, c.in_default.is, c.in_default-head.is, c.swap.ensures.x_after) (joined_extends g.E.Entry.form r.shape None r.row _ _ r.start pending (piece_in pending c.args.block.now.items c.args.upto) (take c.args.upto c.args.block.now.items) now is)

pub returns-in-Wrong-clause-fed : goal.returns-in-Wrong-clause-fed
returns-in-Wrong-clause-fed g c =
    let r = c.self.inside in
    let pending = drop r.used (take r.end r.block.items) in
    let now = filled_is pending c.args.block.now.items c.args.upto (rw (← c.self.view_is) at c.requires) in
    let is : header_in r.shape.kind (take (stream_limit - r.start) (take c.args.upto c.args.block.now.items)) ≡ Wrong c.in-Wrong.fault = sym (rw (c.within_limit.ensures.value, c.as_slice.ensures.value, c.swap.ensures.x_after) at c.in-Wrong.ensures) in
    rw (← c.self.view_is, c.of_header.ensures, c.in_default.is, c.in_default-head.is, c.swap.ensures.x_after) (wrong_extends g.E.Entry.form r.shape c.in-Wrong.fault r.row _ _ r.start pending (piece_in pending c.args.block.now.items c.args.upto) (take c.args.upto c.args.block.now.items) now is)

pub returns-in-Got-clause-fed : goal.returns-in-Got-clause-fed
returns-in-Got-clause-fed g c =
    let r = c.self.inside in
    let pending = drop r.used (take r.end r.block.items) in
    let now = filled_is pending c.args.block.now.items c.args.upto (rw (← c.self.view_is) at c.requires) in
    let is : header_in r.shape.kind (take (stream_limit - r.start) (take c.args.upto c.args.block.now.items)) ≡ Got c.in-Got.head = sym (rw (c.within_limit.ensures.value, c.as_slice.ensures.value, c.swap.ensures.x_after) at c.in-Got.ensures) in
    rw (← c.self.view_is, c.header_length-self-inside.ensures, c.in_default.is, c.in_default-head.is, c.swap.ensures.x_after) (header_extends g.E.Entry.form r.shape c.in-Got.head r.row _ _ r.start pending (piece_in pending c.args.block.now.items c.args.upto) (take c.args.upto c.args.block.now.items) now c.self.invariant.3.start is)

pub invariant_of-self : goal.invariant_of-self
invariant_of-self g c =
    let is = c.self.invariant in
    (omega arith, is.1, is.2, record { head = is.3.head; start = is.3.start; waits = is.3.waits })

pub invariant_of-self-in-Some-head : goal.invariant_of-self-in-Some-head
invariant_of-self-in-Some-head g c =
    let is = c.self.invariant in
    let head = rw c.in-Some-head.is at is.3.head in
    rw (c.in_default.is, c.in-Some-head.is, c.swap.ensures.x_after) (omega arith, omega arith, c.requires.within, record { head = head; start = is.3.start; waits = tt })

pub invariant_of-self-in-Wrong : goal.invariant_of-self-in-Wrong
invariant_of-self-in-Wrong g c =
    let is = c.self.invariant in
    rw c.swap.ensures.x_after (omega arith, omega arith, c.requires.within, record { head = is.3.head; start = is.3.start; waits = tt })
