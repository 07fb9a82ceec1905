use Rattle.std.proofs.Common.{◌+◌, ◌++◌, drop, get_or, ap}
use Rattle.std.proofs.Math.ListN.{drop_of_length-le}
use Rattle.std.specs.Prelude.{pos}
use Rattle.kt_stream.specs.declared.entry.Pair.{Pair}
use Rattle.kt_stream.specs.Pairs.{pair_bytes, end_bytes, pairs_bytes}
use Rattle.kt_stream.proofs.Writing.{puts_first, puts_more, puts_last, pairs_next}
use Rattle.kt_stream.proofs.write.put_fields_and_pairs.Goals as goal

pub loop-pair-init : goal.loop-pair-init
loop-pair-init c = puts_first c.args.out.now c.args.fields.now (pairs_bytes c.args.pairs.now) c.append.new.self c.in_ok-append.ensures.ok

pub loop-pair-preserved : goal.loop-pair-preserved
loop-pair-preserved c =
    let i = c.loop-pair.pair-index in
    let pairs = c.args.pairs.now in
    let none : Pair = record { sidx = pos 0; loss = 0 } in
    puts_more c.args.out.now (c.args.fields.now ++ pairs_bytes pairs) (pairs_bytes (drop i pairs)) c.loop-pair.out (pair_bytes (get_or pairs i none)) (pairs_bytes (drop (i + 1) pairs)) c.put_pair.new.out c.loop-pair.invariant (pairs_next pairs i none c.loop-pair-test.true)
    c.in_ok-put_pair.ensures.ok

pub returns-clause-ok : goal.returns-clause-ok
unfolding end_bytes pair_bytes pairs_bytes
returns-clause-ok c =
    let pairs = c.args.pairs.now in
    puts_last c.args.out.now (c.args.fields.now ++ pairs_bytes pairs) (pairs_bytes (drop c.loop-pair.pair-index pairs)) c.loop-pair.out end_bytes c.put_pair-2.new.out c.loop-pair.invariant (ap pairs_bytes (drop_of_length-le pairs c.loop-pair-test.false)) c.in_ok-put_pair-2.ensures.ok
