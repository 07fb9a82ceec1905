use Rattle.std.proofs.Common.{◌+◌, ◌++◌, [], drop, get_or, ap, sym}
use Rattle.std.proofs.lemmas.List.{append-nil}
use Rattle.std.proofs.Math.ListN.{drop_of_length-le}
use Rattle.kt_stream.specs.declared.entry.Bin.{Bin}
use Rattle.kt_stream.specs.Bins.{bin_bytes, bins_bytes}
use Rattle.kt_stream.proofs.Writing.{puts_first, puts_more, puts_last, bins_next}
use Rattle.kt_stream.proofs.write.put_fields_and_bins.Goals as goal

pub loop-bin-init : goal.loop-bin-init
loop-bin-init c = puts_first c.args.out.now c.args.fields.now (bins_bytes c.args.bins.now) c.append.new.self c.in_ok-append.ensures.ok

pub loop-bin-preserved : goal.loop-bin-preserved
unfolding bin_bytes
loop-bin-preserved c =
    let i = c.loop-bin.bin-index in
    let bins = c.args.bins.now in
    let none : Bin = record { prob_to = 0; mean = 0 } in
    puts_more c.args.out.now (c.args.fields.now ++ bins_bytes bins) (bins_bytes (drop i bins)) c.loop-bin.out (bin_bytes (get_or bins i none)) (bins_bytes (drop (i + 1) bins)) c.put_bin.new.out c.loop-bin.invariant (bins_next bins i none c.loop-bin-test.true)
    c.in_ok-put_bin.ensures.ok

pub returns-clause-ok : goal.returns-clause-ok
unfolding bins_bytes
returns-clause-ok c =
    let bins = c.args.bins.now in
    puts_last c.args.out.now (c.args.fields.now ++ bins_bytes bins) (bins_bytes (drop c.loop-bin.bin-index bins)) c.loop-bin.out [] c.loop-bin.out c.loop-bin.invariant (ap bins_bytes (drop_of_length-le bins c.loop-bin-test.false)) (sym (append-nil c.loop-bin.out))
