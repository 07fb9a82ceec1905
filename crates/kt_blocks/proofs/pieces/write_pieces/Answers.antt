use Rattle.std.proofs.Common.{◌≡◌, ◌+◌, ℕ, List, subst, arith}
use Rattle.std.proofs.lemmas.Grind.{common_steps}
use Rattle.kt_out.specs.Writing.{WritesAll}
use Rattle.kt_blocks.proofs.Midway.{midway_memory, midway_more, midway_ends}
use Rattle.kt_blocks.proofs.pieces.write_pieces.Goals as goal

pub returns-in-Err : goal.returns-in-Err
returns-in-Err g c = midway_memory _ _ _ _ _ c.loop-index.invariant (Unit {0}) c.in-Err.fault c.in-Err.ensures.memory

pub returns-in-Err-spill_block : goal.returns-in-Err-spill_block
returns-in-Err-spill_block g c =
    let more = c.in-Ok.ensures.ok in
    c.in-Err-spill_block.ensures _ _ (g.P.Pieces.rest c.args.pieces.now (c.loop-index.index + 1)) (midway_more _ _ _ _ _ c.loop-index.invariant _ _ more.0 more.1 more.2)

pub returns : goal.returns
returns g c =
    let last : c.loop-index.index ≡ c.count-index-end.result = omega (arith, c.loop-index.auto.index-end, c.loop-index-test.false) in
    midway_ends (Unit {0}) _ (g.K.Sink.state c.loop-index.sink) _ _ c.loop-index.out (g.P.Pieces.rest c.args.pieces.now c.loop-index.index) c.write_all.result c.loop-index.invariant
    (rw last c.count-index-end.ensures.end)
    (subst (λ (piece : List ℕ). WritesAll {T = Unit {0}} (g.K.Sink.state c.loop-index.sink) (g.K.Sink.state c.write_all.new.sink) piece c.write_all.result) c.as_slice.ensures.value c.write_all.ensures.moved)

pub loop-index-init : goal.loop-index-init
loop-index-init g c = grind (arith, common_steps)

pub loop-index-preserved : goal.loop-index-preserved
loop-index-preserved g c = grind (arith, common_steps)
