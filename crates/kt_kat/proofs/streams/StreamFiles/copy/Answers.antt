use Rattle.std.proofs.Common.{◌+◌, ◌++◌, Err, Ok, ap, subst, sym, ◌∙◌, take, drop, length}
use Rattle.kt_out.specs.InputFiles.{InputsState}
use Rattle.kt_out.specs.Reading.{GivesKnown}
use Rattle.kt_out.specs.declared.fault.Fault.TheVariants.{OutOfMemory}
use Rattle.kt_ends.specs.Stops.{stop_status}
use Rattle.kt_ends.specs.declared.tool_stop.ToolStop.{ToolStop}
use Rattle.kt_stream.specs.Reader.{piece_in}
use Rattle.kt_loop.specs.Blocks.{block_filled, filled_block, piece_read}
use Rattle.kt_loop.specs.InputFile.{file_bytes, left_from}
use Rattle.kt_kat.proofs.Ending.{counted_from, faults_kept}
use Rattle.kt_kat.proofs.StreamCopies.{EndsFile, file_copies, file_stops, file_unread}
use Rattle.kt_kat.proofs.streams.StreamFiles.copy.Goals as goal

pub returns-in-Err-read_behind-clause-ended : goal.returns-in-Err-read_behind-clause-ended
returns-in-Err-read_behind-clause-ended g c =
    subst (λ (why : ToolStop). EndsFile g.M.Record.Entry.form g.M.JoinedKind.shape c.args.self.now.first c.args.number (g.K.Sink.state c.args.sink.now).taken (g.K.Sink.state c.pieces.sink).taken (file_bytes (g.I.Inputs.state c.args.inputs.now).held c.args.name.now) (stop_status why)) (sym c.unread_stop.ensures)
    (file_unread g.M.Record.Entry.form g.M.JoinedKind.shape c.args.self.now.first c.args.number _ _ (c.what_is_read_stays.ensures g.M.JoinedKind.shape) c.in-Err-read_behind.fault _ c.pieces.at c.pieces.reader c.pieces.invariant.copied)

pub returns-in-Err-turn-clause-ended : goal.returns-in-Err-turn-clause-ended
returns-in-Err-turn-clause-ended g c =
    let moved = subst (λ (state : InputsState). GivesKnown (left_from (file_bytes state.held c.args.name.now) c.pieces.at) (left_from (file_bytes state.held c.args.name.now) (c.pieces.at + c.in-Ok.read)) (drop (length c.pending-kept.result.now) c.as_mut_slice.result.now) (drop (length c.pending-kept.result.now) c.read_behind.new.block) c.in-Ok.read) c.pieces.invariant.inputs c.in-Ok.ensures.moved in
    let same = filled_block c.begin_block.new.block.items c.read_behind.new.block c.begin_block.new.block.len c.begin_block.new.block.ok.0 (c.read_behind.auto.block ∙ ap length c.as_mut_slice.ensures.value) in
    let items = take c.begin_block.new.block.len (c.read_behind.new.block ++ drop (length c.read_behind.new.block) c.begin_block.new.block.items) in
    let kept = length c.pending-kept.result.now in
    let piece-is = piece_read c.pieces.reader.pending items c.read_behind.new.block kept c.in-Ok.read (ap length c.pending-kept.ensures.value) same in
    file_stops g.M.Record.Entry.form g.M.JoinedKind.shape c.args.self.now.first c.args.number _ _ (file_bytes (g.I.Inputs.state c.args.inputs.now).held c.args.name.now) (c.pieces.at + c.in-Ok.read) c.in-Err-turn.stop
    (file_copies g.M.Record.Entry.form g.M.JoinedKind.shape c.args.self.now.first c.args.number _ _ _ _ c.pieces.at c.in-Ok.read (drop kept c.as_mut_slice.result.now) (drop kept c.read_behind.new.block) (piece_in c.pieces.reader.pending items (kept + c.in-Ok.read)) c.pieces.reader c.turn.new.reader _ (Err c.in-Err-turn.stop) c.pieces.invariant.copied moved piece-is
    (λ fed. c.in-Err-turn.ensures.copied fed _))

pub returns-in-Err-turn-clause-counted : goal.returns-in-Err-turn-clause-counted
returns-in-Err-turn-clause-counted g c outputs source =
    counted_from _ _ _ outputs source _ _ _ (stop_status c.in-Err-turn.stop) (c.in-Ok.ensures.counts ∙ c.pieces.invariant.inputs) c.pieces.invariant.faults (c.in-Err-turn.ensures.counted (g.I.Inputs.state c.read_behind.new.inputs) outputs source)

pub pieces-preserved : goal.pieces-preserved
pieces-preserved g c =
    let moved = subst (λ (state : InputsState). GivesKnown (left_from (file_bytes state.held c.args.name.now) c.pieces.at) (left_from (file_bytes state.held c.args.name.now) (c.pieces.at + c.in-Ok.read)) (drop (length c.pending-kept.result.now) c.as_mut_slice.result.now) (drop (length c.pending-kept.result.now) c.read_behind.new.block) c.in-Ok.read) c.pieces.invariant.inputs c.in-Ok.ensures.moved in
    let same = filled_block c.begin_block.new.block.items c.read_behind.new.block c.begin_block.new.block.len c.begin_block.new.block.ok.0 (c.read_behind.auto.block ∙ ap length c.as_mut_slice.ensures.value) in
    let items = take c.begin_block.new.block.len (c.read_behind.new.block ++ drop (length c.read_behind.new.block) c.begin_block.new.block.items) in
    let kept = length c.pending-kept.result.now in
    let piece-is = piece_read c.pieces.reader.pending items c.read_behind.new.block kept c.in-Ok.read (ap length c.pending-kept.ensures.value) same in
    record {
      inputs = c.in-Ok.ensures.counts ∙ c.pieces.invariant.inputs;
      faults = faults_kept (g.I.Inputs.state c.read_behind.new.inputs) (g.I.Inputs.state c.read_behind.new.inputs) (g.K.Sink.state c.args.sink.now) (g.K.Sink.state c.pieces.sink) (g.K.Sink.state c.turn.new.sink) c.pieces.invariant.faults (c.in_default-turn.ensures.counted (g.I.Inputs.state c.read_behind.new.inputs));
      within = c.in-Ok.ensures.within.2;
      rests = c.in_default-turn.ensures.rests;
      copied = file_copies g.M.Record.Entry.form g.M.JoinedKind.shape c.args.self.now.first c.args.number _ _ _ _ c.pieces.at c.in-Ok.read (drop kept c.as_mut_slice.result.now) (drop kept c.read_behind.new.block) (piece_in c.pieces.reader.pending items (kept + c.in-Ok.read)) c.pieces.reader c.turn.new.reader _ (Ok tt) c.pieces.invariant.copied moved piece-is
          (λ fed. c.in_default-turn.ensures.copied fed _);
    }

-- the block begins with what the reader has not read
pub turn-requires : goal.turn-requires
turn-requires g c =
    let same = filled_block c.begin_block.new.block.items c.read_behind.new.block c.begin_block.new.block.len c.begin_block.new.block.ok.0 (c.read_behind.auto.block ∙ ap length c.as_mut_slice.ensures.value) in
    block_filled _ _ c.read_behind.new.block c.as_mut_slice.result.now c.pending.result.now _ c.in-Ok.read c.pending.ensures.value (ap length (c.pending-kept.ensures.value ∙ sym c.pending.ensures.value)) same c.in-Ok.ensures.front
    (ap (take (length c.pending.result.now)) c.as_mut_slice.ensures.value ∙ c.in_default.ensures.front) c.in-Ok.ensures.within.1 c.read_behind.auto.block

-- no memory was there for the block
pub returns-in-Err-clause-ended : goal.returns-in-Err-clause-ended
returns-in-Err-clause-ended g c =
    file_unread g.M.Record.Entry.form g.M.JoinedKind.shape c.args.self.now.first c.args.number _ _ (c.what_is_read_stays.ensures g.M.JoinedKind.shape) OutOfMemory _ c.pieces.at c.pieces.reader c.pieces.invariant.copied
