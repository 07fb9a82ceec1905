use Rattle.std.proofs.Common.{◌+◌, sym, ap, subst, ◌∙◌, take, length, arith}
use Rattle.std.proofs.lemmas.Grind.{common_steps}
use Rattle.std.specs.Prelude.{IfSome}
use Rattle.kt_out.specs.InputFiles.{InputsState}
use Rattle.kt_out.specs.Reading.{GivesKnown}
use Rattle.kt_ends.specs.Stops.{stop_status}
use Rattle.kt_ends.specs.declared.status.Status.TheVariants.{Done}
use Rattle.kt_ends.specs.declared.tool_stop.ToolStop.{ToolStop}
use Rattle.kt_loop.specs.Blocks.{filled_block}
use Rattle.kt_loop.specs.InputFile.{file_bytes, left_from}
use Rattle.kt_loop.specs.Outcome.{gives}
use Rattle.kt_loop.specs.Settling.{IsEnd}
use Rattle.kt_kat.proofs.Copying.{copied_more, copied_so_far, copied_until, read_stopped}
use Rattle.kt_kat.proofs.plain.PlainBytesFileStep.step.Goals as goal

pub returns-in-Err-clause-ended : goal.returns-in-Err-clause-ended
returns-in-Err-clause-ended g c state at =
    subst (λ (stopped : ToolStop). IfSome (file_bytes (g.I.Inputs.state c.args.inputs.now).held c.args.name.now) (λ bytes. IsEnd (gives Done bytes) (g.K.Sink.state c.args.sink.now).taken (g.K.Sink.state c.pieces.sink).taken (stop_status stopped))) (sym c.unread_stop.ensures)
    (read_stopped c.in-Err.fault (file_bytes (g.I.Inputs.state c.args.inputs.now).held c.args.name.now) _ _ (copied_so_far (file_bytes (g.I.Inputs.state c.args.inputs.now).held c.args.name.now) c.pieces.at _ _ c.pieces.invariant.copied))

pub returns-in-Err-write_all-clause-ended : goal.returns-in-Err-write_all-clause-ended
returns-in-Err-write_all-clause-ended g c state at =
    let moved = subst (λ (state : InputsState). GivesKnown (left_from (file_bytes state.held c.args.name.now) c.pieces.at) (left_from (file_bytes state.held c.args.name.now) (c.pieces.at + c.in-Ok-read_piece.read)) c.as_mut_slice.result.now c.read_piece.new.block c.in-Ok-read_piece.read) c.pieces.invariant.inputs c.in-Ok-read_piece.ensures.moved in
    let same = filled_block c.pieces.block.items c.read_piece.new.block c.pieces.block.len c.pieces.block.ok.0 (c.read_piece.auto.block ∙ ap length c.as_mut_slice.ensures.value) in
    let piece = ap (take c.in-Ok-read_piece.read) (c.deref.ensures.value ∙ same) in
    subst (λ (stopped : ToolStop). IfSome (file_bytes (g.I.Inputs.state c.args.inputs.now).held c.args.name.now) (λ bytes. IsEnd (gives Done bytes) (g.K.Sink.state c.args.sink.now).taken (g.K.Sink.state c.write_all.new.sink).taken (stop_status stopped))) (sym c.write_stop.ensures)
    (copied_until (Unit {0}) _ (g.K.Sink.state c.pieces.sink) (g.K.Sink.state c.write_all.new.sink) _ _ c.read_piece.new.block (take c.in-Ok-read_piece.read c.deref.result.now) c.pieces.at c.in-Ok-read_piece.read (file_bytes (g.I.Inputs.state c.args.inputs.now).held c.args.name.now) c.in-Err-write_all.fault c.pieces.invariant.copied moved piece c.in-Err-write_all.ensures.moved)

pub pieces-preserved : goal.pieces-preserved
pieces-preserved g c =
    let moved = subst (λ (state : InputsState). GivesKnown (left_from (file_bytes state.held c.args.name.now) c.pieces.at) (left_from (file_bytes state.held c.args.name.now) (c.pieces.at + c.in-Ok-read_piece.read)) c.as_mut_slice.result.now c.read_piece.new.block c.in-Ok-read_piece.read) c.pieces.invariant.inputs c.in-Ok-read_piece.ensures.moved in
    let same = filled_block c.pieces.block.items c.read_piece.new.block c.pieces.block.len c.pieces.block.ok.0 (c.read_piece.auto.block ∙ ap length c.as_mut_slice.ensures.value) in
    let piece = ap (take c.in-Ok-read_piece.read) (c.deref.ensures.value ∙ same) in
    record {
      inputs = c.in-Ok-read_piece.ensures.counts ∙ c.pieces.invariant.inputs;
      faults = c.in_default-write_all.ensures.moved.counted ∙ c.pieces.invariant.faults;
      room = ap length same ∙ c.read_piece.auto.block ∙ ap length c.as_mut_slice.ensures.value ∙ c.pieces.invariant.room;
      within = c.in-Ok-read_piece.ensures.within.2;
      copied = copied_more _ _ _ _ _ c.read_piece.new.block (take c.in-Ok-read_piece.read c.deref.result.now) c.pieces.at c.in-Ok-read_piece.read (file_bytes (g.I.Inputs.state c.args.inputs.now).held c.args.name.now) c.pieces.invariant.copied moved piece c.in_default-write_all.ensures.moved.moved;
    }

pub pieces-init : goal.pieces-init
pieces-init g c = grind (arith, common_steps)

pub returns-clause-ended : goal.returns-clause-ended
returns-clause-ended g c = grind (arith, common_steps)
