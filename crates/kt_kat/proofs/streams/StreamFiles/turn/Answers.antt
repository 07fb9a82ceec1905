use Rattle.std.proofs.Common.{◌++◌, ap, ◌∙◌}
use Rattle.std.specs.Option.{is_some}
use Rattle.kt_stream.specs.Reader.{piece_in}
use Rattle.kt_kat.proofs.StreamCopies.{piece_opens, piece_stops, records_copied}
use Rattle.kt_kat.proofs.streams.StreamFiles.turn.Goals as goal

pub returns-in-Err-clause-copied : goal.returns-in-Err-clause-copied
returns-in-Err-clause-copied g c fed before copied =
    let grows = c.what_is_read_stays.ensures g.M.JoinedKind.shape in
    let opens = rw c.head-2.ensures.value at c.in-Err.ensures in
    let was = c.is_some-was_open.ensures ∙ ap is_some c.head.ensures.value in
    piece_stops g.M.Record.Entry.form g.M.JoinedKind.shape c.args.self.now.first c.args.number grows fed (piece_in c.args.reader.now.pending c.args.block.now.items c.args.upto) c.args.reader.now c.feed.new.self before _ _ c.is_some-was_open.result copied (c.feed.ensures.fed fed _ copied.stands) c.feed.ensures.shape was c.in-Err.stop opens

pub returns-clause-copied : goal.returns-clause-copied
returns-clause-copied g c fed before copied =
    let grows = c.what_is_read_stays.ensures g.M.JoinedKind.shape in
    let opens = rw c.head-2.ensures.value at c.in_default.ensures in
    let was = c.is_some-was_open.ensures ∙ ap is_some c.head.ensures.value in
    let opened = piece_opens g.M.Record.Entry.form g.M.JoinedKind.shape c.args.self.now.first c.args.number grows fed (piece_in c.args.reader.now.pending c.args.block.now.items c.args.upto) c.args.reader.now c.feed.new.self before _ _ c.is_some-was_open.result copied (c.feed.ensures.fed fed _ copied.stands) c.feed.ensures.shape was
    (c.no_header_means_no_records.ensures g.M.JoinedKind.shape fed) opens in
    records_copied g.M.Record.Entry.form g.M.JoinedKind.shape c.args.self.now.first c.args.number grows (fed ++ (piece_in c.args.reader.now.pending c.args.block.now.items c.args.upto)) _ before _ _ c.feed.new.self c.copy_records.new.reader opened c.copy_records.result c.copy_records.ensures
