use Rattle.std.proofs.Common.{ℕ, ◌+◌, List, [], ◌++◌, drop, Option, Err, refl, sym, ap, subst, ◌∙◌, take, length, arith, inr}
use Rattle.std.proofs.lemmas.Grind.{common_steps}
use Rattle.kt_out.specs.Counts.{Rose}
use Rattle.kt_out.specs.Reading.{GivesKnown}
use Rattle.kt_stream.specs.declared.stop.StreamStop.{StreamStop}
use Rattle.kt_loop.specs.Reading.{IsJudged, StandsBehind}
use Rattle.kt_ends.specs.Hiding.{none_failed}
use Rattle.kt_ends.specs.Stops.{end_status, stop_status}
use Rattle.kt_loop.specs.Outcome.{outcome}
use Rattle.kt_stream.specs.Reader.{piece_in}
use Rattle.std.proofs.lemmas.List.{length-drop}
use Rattle.kt_loop.specs.Blocks.{block_filled, filled_block, piece_read}
use Rattle.kt_loop.proofs.Going.{HasRead, hides_nothing, read_none, fed_of, read_more, read_all, going_first, going_more, stopped, faulted, stream_refused, ended_so, standing_first}
use Rattle.kt_loop.proofs.RecordReading.{stood_by}
use Rattle.kt_loop.proofs.Stepping.{counts_behind, counts_read, no_inputs}
use Rattle.kt_loop.specs.RecordStreams.{contents_of}
use Rattle.kt_loop.proofs.run.read_all.Goals as goal

pub returns-in-Err-clause-settled : goal.returns-in-Err-clause-settled
returns-in-Err-clause-settled g c start at =
    stopped g.T.Stage.calculation (contents_of g.E.Entry.form (g.T.Stage.shape c.args.stage.now)) (c.what_is_read_stays.ensures (g.T.Stage.shape c.args.stage.now)) start _ _ (Unit {0}) (Unit {0}) (λ state. g.T.Stage.is_at state c.begin.new.stage c.begin.new.beside) _ c.begin.new.out [] c.in-Err.why
    (fed_of _ _ [] (read_none (g.S.Source.state c.args.source.now).left)) (c.in-Err.ensures.course _ start (standing_first (λ state. g.T.Stage.is_at state c.args.stage.now c.args.beside.now) start _ c.args.out.now c.requires.empty at))

pub returns-in-Err-clause-counted : goal.returns-in-Err-clause-counted
returns-in-Err-clause-counted g c others = counts_read (Unit {0}) _ _ _ _ _ _ (Err c.in-Err.why) (c.in-Err.ensures.counted others) refl

pub turns-init : goal.turns-init
turns-init g c = record {
  going = going_first g.T.Stage.calculation g.E.Entry.form (g.T.Stage.shape c.args.stage.now) (λ state. g.T.Stage.is_at state c.args.stage.now c.args.beside.now) (λ state. g.T.Stage.is_at state c.begin.new.stage c.begin.new.beside) _ (g.S.Source.state c.args.source.now).left _ _ c.begin.new.reader c.begin.new.out c.in_default.ensures.stands
      (λ start at. c.in_default.ensures.course _ start (standing_first (λ state. g.T.Stage.is_at state c.args.stage.now c.args.beside.now) start _ c.args.out.now c.requires.empty at));
  rests = c.in_default.ensures.rests;
  ready = c.in_default.ensures.ready;
  shape = c.begin.ensures.shape;
  inputs = λ others. (c.in_default.ensures.counted others).0;
  reads = refl;
  faults = (c.in_default.ensures.counted no_inputs).1;
}

pub returns-in-Err-read_behind-clause-settled : goal.returns-in-Err-read_behind-clause-settled
returns-in-Err-read_behind-clause-settled g c start at =
    let going = c.turns.invariant.going in
    faulted g.T.Stage.calculation (contents_of g.E.Entry.form (g.T.Stage.shape c.args.stage.now)) (c.what_is_read_stays.ensures (g.T.Stage.shape c.args.stage.now)) start _ _ (λ state. g.T.Stage.is_at state c.turns.stage c.turns.beside) _ c.turns.out going.fed (fed_of _ _ going.fed going.read) (going.course start at)

pub returns-then-read-eq0-clause-settled : goal.returns-then-read-eq0-clause-settled
returns-then-read-eq0-clause-settled g c start at =
    let going = c.turns.invariant.going in
    let none = subst (λ (n : ℕ). GivesKnown (g.S.Source.state c.turns.source).left (g.S.Source.state c.read_behind.new.source).left (drop (length c.pending-kept.result.now) c.as_mut_slice.result.now) (drop (length c.pending-kept.result.now) c.read_behind.new.block) n) c.if-read-eq0.true c.in-Ok.ensures.moved.moved in
    ended_so g.T.Stage.calculation (contents_of g.E.Entry.form (g.T.Stage.shape c.args.stage.now)) (c.what_is_read_stays.ensures (g.T.Stage.shape c.args.stage.now)) start _ _ (Unit {0}) _ _ c.finish.new.out going.fed c.finish.result (read_all _ _ _ going.fed _ _ going.read none)
    (c.finish.ensures.course (g.T.Stage.shape c.args.stage.now) going.fed _ start going.behind (going.course start at))

pub returns-then-read-eq0-clause-counted : goal.returns-then-read-eq0-clause-counted
returns-then-read-eq0-clause-counted g c others =
    counts_read (Unit {0}) _ _ _ _ _ _ c.finish.result (counts_behind (Unit {0}) _ _ _ _ _ _ c.finish.result (c.turns.invariant.inputs others) c.turns.invariant.faults (c.finish.ensures.counted others)) (c.in-Ok.ensures.moved.counted ∙ c.turns.invariant.reads)

pub returns-in-Err-turn-clause-settled : goal.returns-in-Err-turn-clause-settled
returns-in-Err-turn-clause-settled g c start at =
    let going = c.turns.invariant.going in
    let items = take c.begin_block.new.block.len (c.read_behind.new.block ++ drop (length c.read_behind.new.block) c.begin_block.new.block.items) in
    let same = filled_block c.begin_block.new.block.items c.read_behind.new.block c.begin_block.new.block.len c.begin_block.new.block.ok.0 (c.read_behind.auto.block ∙ ap length c.as_mut_slice.ensures.value) in
    let kept = length c.pending-kept.result.now in
    let pending = c.turns.reader.pending in
    let piece = piece_in pending items (kept + c.in-Ok.read) in
    let piece-is = piece_read pending items c.read_behind.new.block kept c.in-Ok.read (ap length c.pending-kept.ensures.value) same in
    let read = read_more _ _ _ going.fed _ (drop kept c.read_behind.new.block) piece c.in-Ok.read going.read c.in-Ok.ensures.moved.moved piece-is in
    stopped g.T.Stage.calculation (contents_of g.E.Entry.form (g.T.Stage.shape c.args.stage.now)) (c.what_is_read_stays.ensures (g.T.Stage.shape c.args.stage.now)) start _ _ (Option StreamStop) (Unit {0}) (λ state. g.T.Stage.is_at state c.turn.new.stage c.turn.new.beside) _ c.turn.new.out _ c.in-Err-turn.why (fed_of _ _ _ read)
    (c.in-Err-turn.ensures.course (g.T.Stage.shape c.args.stage.now) going.fed _ start going.behind (going.course start at))

pub returns-in-Err-turn-clause-counted : goal.returns-in-Err-turn-clause-counted
returns-in-Err-turn-clause-counted g c others =
    counts_read (Unit {0}) _ _ _ _ _ _ (Err c.in-Err-turn.why)
    (counts_behind (Unit {0}) _ _ _ _ _ _ (Err c.in-Err-turn.why) (c.turns.invariant.inputs others) c.turns.invariant.faults (c.in-Err-turn.ensures.counted others))
    (c.in-Ok.ensures.moved.counted ∙ c.turns.invariant.reads)

pub returns-in-Some-clause-settled : goal.returns-in-Some-clause-settled
returns-in-Some-clause-settled g c start at =
    let going = c.turns.invariant.going in
    let items = take c.begin_block.new.block.len (c.read_behind.new.block ++ drop (length c.read_behind.new.block) c.begin_block.new.block.items) in
    let same = filled_block c.begin_block.new.block.items c.read_behind.new.block c.begin_block.new.block.len c.begin_block.new.block.ok.0 (c.read_behind.auto.block ∙ ap length c.as_mut_slice.ensures.value) in
    let kept = length c.pending-kept.result.now in
    let pending = c.turns.reader.pending in
    let piece = piece_in pending items (kept + c.in-Ok.read) in
    let piece-is = piece_read pending items c.read_behind.new.block kept c.in-Ok.read (ap length c.pending-kept.ensures.value) same in
    let read = read_more _ _ _ going.fed _ (drop kept c.read_behind.new.block) piece c.in-Ok.read going.read c.in-Ok.ensures.moved.moved piece-is in
    let judged = subst (λ (stop : Option StreamStop). IsJudged g.E.Entry.form (g.T.Stage.shape c.args.stage.now) (going.fed ++ piece) stop) c.in-Some.is (c.in-Ok-turn.ensures.stands (g.T.Stage.shape c.args.stage.now) going.fed going.behind).1 in
    stream_refused g.T.Stage.calculation (contents_of g.E.Entry.form (g.T.Stage.shape c.args.stage.now)) (c.what_is_read_stays.ensures (g.T.Stage.shape c.args.stage.now)) start _ _ (λ state. g.T.Stage.is_at state c.turn.new.stage c.turn.new.beside) _ c.turn.new.out _ c.in-Some.stop (fed_of _ _ _ read) judged
    (c.in-Ok-turn.ensures.course (g.T.Stage.shape c.args.stage.now) going.fed _ start going.behind (going.course start at))

pub returns-in-Some-clause-counted : goal.returns-in-Some-clause-counted
returns-in-Some-clause-counted g c others =
    ((c.in-Ok-turn.ensures.counted others).0 ∙ c.turns.invariant.inputs others, c.in-Ok.ensures.moved.counted ∙ c.turns.invariant.reads, (c.in-Ok-turn.ensures.counted others).1 ∙ c.turns.invariant.faults)

pub turns-preserved : goal.turns-preserved
turns-preserved g c =
    let going = c.turns.invariant.going in
    let items = take c.begin_block.new.block.len (c.read_behind.new.block ++ drop (length c.read_behind.new.block) c.begin_block.new.block.items) in
    let same = filled_block c.begin_block.new.block.items c.read_behind.new.block c.begin_block.new.block.len c.begin_block.new.block.ok.0 (c.read_behind.auto.block ∙ ap length c.as_mut_slice.ensures.value) in
    let kept = length c.pending-kept.result.now in
    let pending = c.turns.reader.pending in
    let piece = piece_in pending items (kept + c.in-Ok.read) in
    let piece-is = piece_read pending items c.read_behind.new.block kept c.in-Ok.read (ap length c.pending-kept.ensures.value) same in
    record {
      going = going_more g.T.Stage.calculation g.E.Entry.form (g.T.Stage.shape c.args.stage.now) (λ state. g.T.Stage.is_at state c.args.stage.now c.args.beside.now) (λ state. g.T.Stage.is_at state c.turns.stage c.turns.beside) _ _ _ _ c.turns.reader c.turns.out (λ state. g.T.Stage.is_at state c.turn.new.stage c.turn.new.beside) _ _ c.turn.new.reader c.turn.new.out _ _ (drop kept c.read_behind.new.block)
          piece c.in-Ok.read going c.in-Ok.ensures.moved.moved piece-is (omega (arith, c.if-read-eq0.false)) (omega (arith, length-drop kept c.read_behind.new.block, c.in-Ok.ensures.within, c.read_behind.auto.block))
          (subst (λ (stop : Option StreamStop). StandsBehind g.row.E.Denot g.E.Entry.form (g.T.Stage.shape c.args.stage.now) (going.fed ++ piece) c.turn.new.reader × IsJudged g.E.Entry.form (g.T.Stage.shape c.args.stage.now) (going.fed ++ piece) stop) c.in_default-stop.is (c.in-Ok-turn.ensures.stands (g.T.Stage.shape c.args.stage.now) going.fed going.behind))
          (λ start at. c.in-Ok-turn.ensures.course (g.T.Stage.shape c.args.stage.now) going.fed _ start going.behind (going.course start at));
      rests = c.in-Ok-turn.ensures.rests;
      ready = c.in-Ok-turn.ensures.ready;
      shape = c.turn.ensures.shape ∙ c.turns.invariant.shape;
      inputs = λ others. (c.in-Ok-turn.ensures.counted others).0 ∙ c.turns.invariant.inputs others;
      reads = c.in-Ok.ensures.moved.counted ∙ c.turns.invariant.reads;
      faults = (c.in-Ok-turn.ensures.counted no_inputs).1 ∙ c.turns.invariant.faults;
    }

pub finish-requires-clause-told : goal.finish-requires-clause-told
finish-requires-clause-told g c = c.turns.invariant.going.behind.told ∙ sym c.turns.invariant.shape

pub turn-requires-clause-told : goal.turn-requires-clause-told
turn-requires-clause-told g c = c.turns.invariant.going.behind.told ∙ sym c.turns.invariant.shape

pub turn-requires-clause-stood : goal.turn-requires-clause-stood
turn-requires-clause-stood g c = stood_by g.E.Entry.form (g.T.Stage.shape c.args.stage.now) c.turns.reader c.turns.invariant.going.fed c.turns.invariant.going.behind

pub returns-in-Err-begin_block-clause-counted : goal.returns-in-Err-begin_block-clause-counted
returns-in-Err-begin_block-clause-counted g c = grind (arith, common_steps)

pub returns-in-Err-begin_block-clause-settled : goal.returns-in-Err-begin_block-clause-settled
returns-in-Err-begin_block-clause-settled g c start at =
    let going = c.turns.invariant.going in
    faulted g.T.Stage.calculation (contents_of g.E.Entry.form (g.T.Stage.shape c.args.stage.now)) (c.what_is_read_stays.ensures (g.T.Stage.shape c.args.stage.now)) start _ _ (λ state. g.T.Stage.is_at state c.turns.stage c.turns.beside) _ c.turns.out going.fed (fed_of _ _ going.fed going.read) (going.course start at)

pub returns-in-Err-read_behind-clause-counted : goal.returns-in-Err-read_behind-clause-counted
returns-in-Err-read_behind-clause-counted g c others =
    let rose = subst (λ (n : ℕ). Rose n (g.S.Source.state c.read_behind.new.source).faults) c.turns.invariant.reads c.in-Err-read_behind.ensures.moved.counted in
    (inr (c.turns.invariant.inputs others, rose), c.turns.invariant.faults)

pub returns-in-Err-clause-hides_none : goal.returns-in-Err-clause-hides_none
returns-in-Err-clause-hides_none g c start at = none_failed (λ bytes. outcome g.T.Stage.calculation start (contents_of g.E.Entry.form (g.T.Stage.shape c.args.stage.now) bytes)) _ _ (stop_status c.in-Err.why) refl

pub returns-in-Err-read_behind-clause-hides_none : goal.returns-in-Err-read_behind-clause-hides_none
returns-in-Err-read_behind-clause-hides_none g c start at =
    let going = c.turns.invariant.going in
    hides_nothing g.T.Stage.calculation (contents_of g.E.Entry.form (g.T.Stage.shape c.args.stage.now)) start (λ state. g.T.Stage.is_at state c.turns.stage c.turns.beside) _ _ c.turns.out going.fed (going.course start at) _ _
    (subst (λ (now : Option (List ℕ)). HasRead (g.S.Source.state c.args.source.now).left now going.fed) (sym c.in-Err-read_behind.ensures.moved.kept) going.read) going.unrefused

pub returns-then-read-eq0-clause-hides_none : goal.returns-then-read-eq0-clause-hides_none
returns-then-read-eq0-clause-hides_none g c start at =
    none_failed (λ bytes. outcome g.T.Stage.calculation start (contents_of g.E.Entry.form (g.T.Stage.shape c.args.stage.now) bytes)) _ _ (end_status c.finish.result) (c.in-Ok.ensures.moved.counted ∙ c.turns.invariant.reads)

pub returns-in-Err-turn-clause-hides_none : goal.returns-in-Err-turn-clause-hides_none
returns-in-Err-turn-clause-hides_none g c start at =
    none_failed (λ bytes. outcome g.T.Stage.calculation start (contents_of g.E.Entry.form (g.T.Stage.shape c.args.stage.now) bytes)) _ _ (stop_status c.in-Err-turn.why) (c.in-Ok.ensures.moved.counted ∙ c.turns.invariant.reads)

-- the block begins with what the reader has not read
pub turn-requires-clause-filled : goal.turn-requires-clause-filled
turn-requires-clause-filled g c =
    let same = filled_block c.begin_block.new.block.items c.read_behind.new.block c.begin_block.new.block.len c.begin_block.new.block.ok.0 (c.read_behind.auto.block ∙ ap length c.as_mut_slice.ensures.value) in
    block_filled _ _ c.read_behind.new.block c.as_mut_slice.result.now c.pending.result.now _ c.in-Ok.read c.pending.ensures.value (ap length (c.pending-kept.ensures.value ∙ sym c.pending.ensures.value)) same c.in-Ok.ensures.front
    (ap (take (length c.pending.result.now)) c.as_mut_slice.ensures.value ∙ c.in_default-begin_block.ensures.front) c.in-Ok.ensures.within c.read_behind.auto.block
