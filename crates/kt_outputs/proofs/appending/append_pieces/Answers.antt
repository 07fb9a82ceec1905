use Rattle.std.proofs.Common.{◌<◌, ◌≤◌, length, arith, ◌∙◌}
use Rattle.kt_outputs.proofs.MidwayLemmas.{midway_front, midway_more, last_spill, none_behind, none_of_nothing}
use Rattle.kt_outputs.proofs.appending.append_pieces.Goals as goal

pub loop-piece-preserved : goal.loop-piece-preserved
loop-piece-preserved g c = record {
  midway = λ start are.
      let within : c.loop-piece.piece < length (g.T.Texts.pieces_of start c.args.texts.now c.args.file.now) = omega (arith, c.pieces-piece-end.ensures start are) in
      c.in-Ok-spill_block.ensures.moved _ _ _ (midway_more _ _ _ _ _ _ _ _ within (c.loop-piece.invariant.midway start are) (c.in-Ok.ensures.ok start are));
  untouched = λ start are none.
      let within : c.loop-piece.piece < length (g.T.Texts.pieces_of start c.args.texts.now c.args.file.now) = omega (arith, c.pieces-piece-end.ensures start are) in
      let pushed = midway_more _ _ _ _ _ _ _ _ within (c.loop-piece.invariant.midway start are) (c.in-Ok.ensures.ok start are) in
      c.in-Ok-spill_block.ensures.untouched (none_of_nothing _ _ _ _ _ _ none pushed) ∙ c.loop-piece.invariant.untouched start are none;
  counted = c.in-Ok-spill_block.ensures.counts ∙ c.loop-piece.invariant.counted;
}

pub returns-in-Err-clause-moved : goal.returns-in-Err-clause-moved
returns-in-Err-clause-moved g c start are = midway_front _ _ _ _ _ _ (c.loop-piece.invariant.midway start are)

pub returns-in-Err-spill_block-clause-moved : goal.returns-in-Err-spill_block-clause-moved
returns-in-Err-spill_block-clause-moved g c start are =
    let within : c.loop-piece.piece < length (g.T.Texts.pieces_of start c.args.texts.now c.args.file.now) = omega (arith, c.pieces-piece-end.ensures start are) in
    c.in-Err-spill_block.ensures.moved _ _ _ (midway_more _ _ _ _ _ _ _ _ within (c.loop-piece.invariant.midway start are) (c.in-Ok.ensures.ok start are))

pub returns-in-Err-spill_block-clause-untouched : goal.returns-in-Err-spill_block-clause-untouched
returns-in-Err-spill_block-clause-untouched g c start are none =
    let within : c.loop-piece.piece < length (g.T.Texts.pieces_of start c.args.texts.now c.args.file.now) = omega (arith, c.pieces-piece-end.ensures start are) in
    let pushed = midway_more _ _ _ _ _ _ _ _ within (c.loop-piece.invariant.midway start are) (c.in-Ok.ensures.ok start are) in
    c.in-Err-spill_block.ensures.untouched (none_of_nothing _ _ _ _ _ _ none pushed) ∙ c.loop-piece.invariant.untouched start are none

pub returns-clause-moved : goal.returns-clause-moved
returns-clause-moved g c start are =
    let past : length (g.T.Texts.pieces_of start c.args.texts.now c.args.file.now) ≤ c.loop-piece.piece = omega (arith, c.pieces-piece-end.ensures start are) in
    last_spill _ _ _ _ _ _ _ (none_behind _ _ past) c.spill.ensures.none_pending (c.spill.ensures.moved _ _ _ (c.loop-piece.invariant.midway start are))

pub returns-clause-untouched : goal.returns-clause-untouched
returns-clause-untouched g c start are none =
    c.spill.ensures.untouched (none_of_nothing _ _ _ _ _ _ none (c.loop-piece.invariant.midway start are)) ∙ c.loop-piece.invariant.untouched start are none
