use Rattle.std.proofs.Common.{◌+◌, append_assoc, sym, ◌∙◌, arith, refl}
use Rattle.std.proofs.lemmas.Bool.{MatchBool-at_true, MatchBool-at_false, ne_eqb}
use Rattle.std.proofs.lemmas.Result.{err_from_is_err_and}
use Rattle.kt_cells.specs.Reading.{table_rows}
use Rattle.kt_cells.specs.Stops.{Tells-refused}
use Rattle.kt_cells.specs.Texts.{text_value}
use Rattle.kt_cells.proofs.ReadingLemmas.{table_rows-row, table_rows-stops, front-more, front-stops, front-end}
use Rattle.kt_cells.proofs.TextLemmas.{row-taken}
use Rattle.kt_cells.proofs.text_rows.read_rows_left.Goals as goal

pub returns-then-len-clause-refused : goal.returns-then-len-clause-refused
unfolding table_rows
returns-then-len-clause-refused g c =
    let taken = MatchBool-at_true _ _ c.if-branch.true c.in_ok-next_record.ensures.next in
    front-stops c.loop-count.invariant.front _ (rw (taken.first, ne_eqb _ _ (λ e. c.if-len.true (c.len.ensures ∙ e ∙ c.told-kinds))) refl)

pub returns-in_err-values-clause-refused : goal.returns-in_err-values-clause-refused
returns-in_err-values-clause-refused g c =
    let p = err_from_is_err_and c.from_residual-in_err-values.result c.from_residual-in_err-values.ensures.1 in
    let taken = MatchBool-at_true _ _ c.if-branch.true c.in_ok-next_record.ensures.next in
    let width = sym c.len.ensures ∙ c.if-len.false ∙ sym c.told-kinds in
    rw (p.1, p.2) (Tells-refused _ _ (front-stops c.loop-count.invariant.front _ (rw taken.first (table_rows-stops text_value c.args.ordered 1 c.args.kinds.now c.loop-count.floor (c.loop-count.count + 1) _ _ _ width c.in_err-values.ensures))))

pub take-requires : goal.take-requires
take-requires g c = (omega (arith, c.requires.size), (omega (arith, c.requires.size), (c.requires.size, row-taken c.args.kinds.now _ _ _ _ c.requires.takes (sym c.len.ensures ∙ c.if-len.false ∙ sym c.told-kinds) c.in_ok-values.ensures)))

pub loop-count-preserved : goal.loop-count-preserved
loop-count-preserved g c =
    let taken = MatchBool-at_true _ _ c.if-branch.true c.in_ok-next_record.ensures.next in
    let width = sym c.len.ensures ∙ c.if-len.false ∙ sym c.told-kinds in
    rw c.floor_after-floor.ensures (record {
      stands = taken.stands;
      within = omega (arith, c.loop-count.invariant.within, taken.fewer);
      front = front-more c.loop-count.invariant.front _ c.in_ok-values.values _
          (rw taken.first (table_rows-row text_value c.args.ordered 1 c.args.kinds.now c.loop-count.floor (c.loop-count.count + 1) c.in_ok-values.values _ _ width c.in_ok-values.ensures))
          (λ more taken start rows held. rw (← append_assoc rows more _) (c.in_ok-take.ensures.ok start _ (taken start rows held)));
    })

pub returns-clause-value : goal.returns-clause-value
unfolding table_rows
returns-clause-value g c =
    let none = MatchBool-at_false _ _ c.if-branch.false c.in_ok-next_record.ensures.next in
    front-end c.loop-count.invariant.front (rw none refl)
