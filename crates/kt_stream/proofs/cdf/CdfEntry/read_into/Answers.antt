use Rattle.std.proofs.Common.{◌+◌, drop, sym, length-drop, arith}
use Rattle.std.proofs.lemmas.List.{take_rest}
use Rattle.kt_stream.specs.declared.entry.Cdf.{Cdf}
use Rattle.kt_stream.proofs.BinsRead.{bins_got}
use Rattle.kt_stream.proofs.Distributions.{cdf_front_short, cdf_front_wrong, cdf_bins_short, cdf_bins_wrong, cdf_whole, cdf_length}
use Rattle.kt_stream.proofs.cdf.CdfEntry.read_into.Goals as goal

pub overflow_add-result : goal.overflow_add-result
overflow_add-result c =
    let bytes = c.args.bytes.now in
    let read = rw (take_rest, c.in-Got-2.is) at c.in_ok-read_bins.ensures in
    let known = bins_got c.in-Got.front.bins 0 (drop 16 bytes) (c.args.at + 16) c.read_bins.new.list read.0 in
    omega (arith, read.1, known.long, known.count, length-drop 16 bytes, c.requires.at)

pub returns-in-Got-2 : goal.returns-in-Got-2
returns-in-Got-2 c =
    let read = rw (take_rest, c.in-Got-2.is) at c.in_ok-read_bins.ensures in
    let whole = cdf_whole c.args.shape.bins c.args.bytes.now c.args.at c.in-Got.front c.read_bins.new.list (sym c.in-Got.ensures) read.0 in
    let entry : Cdf = record { event = c.in-Got.front.event; areaperil = c.in-Got.front.areaperil; vulnerability = c.in-Got.front.vulnerability; bins = c.read_bins.new.list } in
    record { value = (whole, omega (arith, read.1, cdf_length entry)) }

pub returns-in-Short : goal.returns-in-Short
returns-in-Short c = record { value = cdf_front_short c.args.shape.bins c.args.bytes.now c.args.at (sym c.in-Short.ensures) }

pub returns-in-Wrong : goal.returns-in-Wrong
returns-in-Wrong c = record { value = cdf_front_wrong c.args.shape.bins c.args.bytes.now c.args.at c.in-Wrong.misfit (sym c.in-Wrong.ensures) }

pub returns-in-Short-2 : goal.returns-in-Short-2
returns-in-Short-2 c =
    let read = rw (take_rest, c.in-Short-2.is) at c.in_ok-read_bins.ensures in
    record { value = cdf_bins_short c.args.shape.bins c.args.bytes.now c.args.at c.in-Got.front (sym c.in-Got.ensures) read }

pub returns-in-Wrong-2 : goal.returns-in-Wrong-2
returns-in-Wrong-2 c =
    let read = rw (take_rest, c.in-Wrong-2.is) at c.in_ok-read_bins.ensures in
    record { value = cdf_bins_wrong c.args.shape.bins c.args.bytes.now c.args.at c.in-Got.front c.in-Wrong-2.misfit (sym c.in-Got.ensures) read }
