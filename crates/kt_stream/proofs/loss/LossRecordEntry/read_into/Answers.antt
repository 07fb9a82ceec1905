use Rattle.std.proofs.Common.{[], ◌+◌, drop, refl, sym, length-drop, arith}
use Rattle.std.proofs.lemmas.List.{take_rest}
use Rattle.kt_stream.specs.declared.entry.LossRecord.{LossRecord}
use Rattle.kt_stream.specs.Losses.{loss_fields, loss_record, loss_front, loss_in}
use Rattle.kt_stream.proofs.Cases.{short_then, wrong_then}
use Rattle.kt_stream.proofs.PairsRead.{pairs_got}
use Rattle.kt_stream.proofs.PairRecords.{pair_record_short, pair_record_wrong}
use Rattle.kt_stream.specs.Read.{fields_in}
use Rattle.kt_stream.proofs.LossRecords.{loss_whole}
use Rattle.kt_stream.proofs.loss.LossRecordEntry.read_into.Goals as goal

pub overflow_add-result : goal.overflow_add-result
overflow_add-result c =
    let bytes = c.args.bytes.now in
    let read = rw (take_rest, c.in-Got-2.is) at c.in_ok-read_pairs.ensures in
    let known = pairs_got (c.args.samples + 4) c.args.samples 0 (drop 8 bytes) (c.args.at + 8) c.read_pairs.new.list read.0 in
    omega (arith, read.1, known.long, length-drop 8 bytes, c.requires.at)

pub returns-in-Got-2 : goal.returns-in-Got-2
returns-in-Got-2 c =
    let read = rw (take_rest, c.in-Got-2.is) at c.in_ok-read_pairs.ensures in
    let entry : LossRecord = record { event = c.in-Got.front.event; id = c.in-Got.front.id; pairs = c.read_pairs.new.list } in
    let whole = loss_whole c.args.samples c.args.bytes.now c.args.at c.in-Got.front c.read_pairs.new.list entry refl (sym c.in-Got.ensures) read.0 in
    record { value = (whole.0, omega (arith, read.1, whole.1)) }

pub returns-in-Short : goal.returns-in-Short
unfolding loss_in
returns-in-Short c = record { value = short_then (fields_in loss_fields [] c.args.bytes.now c.args.at) loss_front _ (sym c.in-Short.ensures) }

pub returns-in-Wrong : goal.returns-in-Wrong
unfolding loss_in
returns-in-Wrong c = record { value = wrong_then (fields_in loss_fields [] c.args.bytes.now c.args.at) loss_front _ c.in-Wrong.misfit (sym c.in-Wrong.ensures) }

pub returns-in-Short-2 : goal.returns-in-Short-2
unfolding loss_in
returns-in-Short-2 c =
    let read = rw (take_rest, c.in-Short-2.is) at c.in_ok-read_pairs.ensures in
    record { value = pair_record_short loss_fields loss_record loss_front c.args.samples c.args.bytes.now c.args.at c.in-Got.front (sym c.in-Got.ensures) read }

pub returns-in-Wrong-2 : goal.returns-in-Wrong-2
unfolding loss_in
returns-in-Wrong-2 c =
    let read = rw (take_rest, c.in-Wrong-2.is) at c.in_ok-read_pairs.ensures in
    record { value = pair_record_wrong loss_fields loss_record loss_front c.args.samples c.args.bytes.now c.args.at c.in-Got.front c.in-Wrong-2.misfit (sym c.in-Got.ensures) read }
