use Rattle.std.proofs.Common.{◌+◌, sym, arith}
use Rattle.std.proofs.lemmas.List.{take_rest}
use Rattle.kt_stream.proofs.PairsLoop.{last_end, last_short, last_wrong}
use Rattle.kt_stream.proofs.pairs.read_pairs.Goals as goal

pub returns-in-Short : goal.returns-in-Short
returns-in-Short c =
    let found = c.first_pairs-pairs in
    last_short c.args.samples c.args.bytes.now found.result.pairs.items found.result.least found.result.used c.args.at found.ensures.first (sym (rw take_rest at c.in-Short.ensures))

pub returns-in-Wrong : goal.returns-in-Wrong
returns-in-Wrong c =
    let found = c.first_pairs-pairs in
    last_wrong c.args.samples c.args.bytes.now found.result.pairs.items found.result.least found.result.used c.args.at c.in-Wrong.misfit found.ensures.first (sym (rw take_rest at c.in-Wrong.ensures))

pub returns-in-Got : goal.returns-in-Got
returns-in-Got c =
    let found = c.first_pairs-pairs in
    let read = sym (rw take_rest at c.in-Got.ensures) in
    let ended = found.ensures.last (c.args.at + found.result.used) c.in-Got._end read in
    rw c.from_vec.ensures.value (
      last_end c.args.samples c.args.bytes.now found.result.pairs.items found.result.least found.result.used c.args.at c.in-Got._end found.ensures.first read ended,
      omega (arith, found.ensures.first.size),
    )
