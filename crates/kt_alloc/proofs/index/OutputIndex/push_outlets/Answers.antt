use Rattle.std.proofs.Common.{slice_index_or}
use Rattle.kt_alloc.specs.Index.{outlet_in}
use Rattle.kt_alloc.specs.declared.index.UnitOutput.{UnitOutput}
use Rattle.kt_alloc.proofs.IndexLemmas.{left-out, taken-in}
use Rattle.kt_alloc.proofs.OutletLemmas.{made-behind}
use Rattle.kt_alloc.proofs.index.OutputIndex.push_outlets.Goals as goal
use Rattle.kt_alloc.proofs.index.OutputIndex.push_outlets.Goals.{then-row-key+in_ok-push, else-row-key}

pub loop-row-preserved : goal.loop-row-preserved
loop-row-preserved c =
    let none : UnitOutput = record { agg_id = 0; layer_id = 0; output_id = 0 } in
    let i = c.loop-row.row-index in
    let row = slice_index_or c.of_unit-rows.result.now i none in
    let behind = made-behind (outlet_in c.args.key.1 c.args.place) c.of_unit-rows.result.now c.args.outlets.now.items c.loop-row.outlets.items in
    elim c.if-row-key.branch [
      | then-row-key+in_ok-push w ↦ rw (w.outlets-is) (behind _ i none c.loop-row-test.true c.loop-row.invariant (taken-in c.args.key.1 c.args.place row c.loop-row.outlets.items w.push.new.self.items w.if-row-key.true w.in_ok-push.ensures.items))
      | else-row-key w ↦ rw (w.outlets-is) (behind c.loop-row.outlets.items i none c.loop-row-test.true c.loop-row.invariant (left-out c.args.key.1 c.args.place row c.loop-row.outlets.items w.if-row-key.false))
    ]
