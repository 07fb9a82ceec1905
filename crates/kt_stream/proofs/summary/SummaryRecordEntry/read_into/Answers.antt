use Rattle.std.proofs.Common.{[], ◌+◌, drop, refl, sym, length-drop, arith}
use Rattle.std.proofs.lemmas.List.{take_rest}
use Rattle.kt_stream.specs.declared.entry.SummaryRecord.{SummaryRecord}
use Rattle.kt_stream.specs.Summary.{summary_fields, summary_record, front_of, summary_in}
use Rattle.kt_stream.proofs.Cases.{short_then, wrong_then}
use Rattle.kt_stream.proofs.PairsRead.{pairs_got}
use Rattle.kt_stream.proofs.PairRecords.{pair_record_short, pair_record_wrong}
use Rattle.kt_stream.specs.Read.{fields_in}
use Rattle.kt_stream.proofs.Summaries.{summary_whole}
use Rattle.kt_stream.proofs.summary.SummaryRecordEntry.read_into.Goals as goal

pub overflow_add-result : goal.overflow_add-result
overflow_add-result c =
    let bytes = c.args.bytes.now in
    let read = rw (take_rest, c.in-Got-2.is) at c.in_ok-read_pairs.ensures in
    let known = pairs_got (c.args.samples + 4) c.args.samples 0 (drop 16 bytes) (c.args.at + 16) c.read_pairs.new.list read.0 in
    omega (arith, read.1, known.long, length-drop 16 bytes, c.requires.at)

pub returns-in-Got-2 : goal.returns-in-Got-2
returns-in-Got-2 c =
    let read = rw (take_rest, c.in-Got-2.is) at c.in_ok-read_pairs.ensures in
    let entry : SummaryRecord = record { event = c.in-Got.front.event; summary = c.in-Got.front.summary; exposure = c.in-Got.front.exposure; pairs = c.read_pairs.new.list } in
    let whole = summary_whole c.args.samples c.args.bytes.now c.args.at c.in-Got.front c.read_pairs.new.list entry refl (sym c.in-Got.ensures) read.0 in
    record { value = (whole.0, omega (arith, read.1, whole.1)) }

pub returns-in-Short : goal.returns-in-Short
unfolding summary_in
returns-in-Short c = record { value = short_then (fields_in summary_fields [] c.args.bytes.now c.args.at) front_of _ (sym c.in-Short.ensures) }

pub returns-in-Wrong : goal.returns-in-Wrong
unfolding summary_in
returns-in-Wrong c = record { value = wrong_then (fields_in summary_fields [] c.args.bytes.now c.args.at) front_of _ c.in-Wrong.misfit (sym c.in-Wrong.ensures) }

pub returns-in-Short-2 : goal.returns-in-Short-2
unfolding summary_in
returns-in-Short-2 c =
    let read = rw (take_rest, c.in-Short-2.is) at c.in_ok-read_pairs.ensures in
    record { value = pair_record_short summary_fields summary_record front_of c.args.samples c.args.bytes.now c.args.at c.in-Got.front (sym c.in-Got.ensures) read }

pub returns-in-Wrong-2 : goal.returns-in-Wrong-2
unfolding summary_in
returns-in-Wrong-2 c =
    let read = rw (take_rest, c.in-Wrong-2.is) at c.in_ok-read_pairs.ensures in
    record { value = pair_record_wrong summary_fields summary_record front_of c.args.samples c.args.bytes.now c.args.at c.in-Got.front c.in-Wrong-2.misfit (sym c.in-Got.ensures) read }
