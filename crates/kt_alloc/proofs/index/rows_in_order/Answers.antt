use Rattle.std.proofs.Common.{sym, ◌∙◌}
use Rattle.kt_alloc.specs.Index.{first_of}
use Rattle.kt_alloc.proofs.ListLemmas.{made-push, made-skip}
use Rattle.kt_alloc.proofs.index.rows_in_order.Goals as goal
use Rattle.kt_alloc.proofs.index.rows_in_order.Goals.{in-Some+in_ok-push, in_default}

pub loop-id-preserved : goal.loop-id-preserved
loop-id-preserved c = elim c.match-row_of.branch [
  | in-Some+in_ok-push w ↦ rw (w.found-is) (made-push (first_of c.args.rows.now) c.args.ids.now c.loop-id.found.items _ c.loop-id.id-index 0 _ c.loop-id-test.true c.loop-id.invariant (sym c.row_of.ensures.value ∙ w.in-Some.is) w.in_ok-push.ensures.items)
  | in_default w ↦ rw (w.found-is) (made-skip (first_of c.args.rows.now) c.args.ids.now c.loop-id.found.items c.loop-id.id-index 0 c.loop-id-test.true c.loop-id.invariant (sym c.row_of.ensures.value ∙ w.in_default.is))
]
