-- One total more is low, or was found to be above.
use Rattle.std.proofs.Common.{◌≡◌, ◌≤◌, List, arith, subst, take_all, sym, ◌∙◌, not, refl}
use Rattle.std.specs.Prelude.{All, Bool, true, false}
use Rattle.kt_cell.specs.declared.cell.Cell.{Cell}
use Rattle.kt_period_cells.proofs.RoomLemmas.{all_take_more}
use Rattle.kt_period_cells.proofs.row.room.are_at_most.Goals as goal
use Rattle.kt_period_cells.proofs.row.room.are_at_most.Goals.{then-cell-most, else-cell-most}

-- what is not so is not
not_true : (b : Bool) → not b ≡ true → b ≡ false
not_true false is = refl
not_true true is = cc

pub loop-cell-preserved : goal.loop-cell-preserved
loop-cell-preserved c = elim c.if-cell-most.branch [
  | then-cell-most w ↦ λ low. absurd (true_is_not (sym w.is_above-is ∙ low))
  | else-cell-most w ↦ λ low. all_take_more (λ (one : Cell). one.total ≤ c.args.most) c.args.places.now c.loop-cell.cell-index (record { total = 0; maximum = 0 }) c.loop-cell-test.true (c.loop-cell.invariant (sym w.is_above-is ∙ low)) (omega (arith, w.if-cell-most.false))
]
  where
    true_is_not : true ≡ false → ⊥
    true_is_not is = cc

pub returns : goal.returns
returns c = record { value = λ yes. subst (λ (cs : List Cell). All (λ one. one.total ≤ c.args.most) cs) (take_all c.loop-cell.cell-index c.args.places.now c.loop-cell-test.false) (c.loop-cell.invariant (not_true c.loop-cell.is_above yes)) }
