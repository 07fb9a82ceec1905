use Rattle.std.proofs.Common.{◌≡◌, ◌+◌, ◌-◌, ◌*◌, ◌++◌, ◌∙◌, [], ap, arith, drop, get_or, sym, take}
use Rattle.std.proofs.lemmas.List.{drop_all, drop_more, get_or-take, length-take-le}
use Rattle.kt_cells.specs.Lines.{line_with, lines_with}
use Rattle.kt_cells.proofs.WritingLemmas.{lines_with-none, lines_with-row}
use Rattle.kt_cells.proofs.lines.write_lines.Goals as goal

pub loop-row-init : goal.loop-row-init
loop-row-init g c =
    let all = length-take-le c.args.count c.args.rows.now (omega (arith, c.told-rows, c.requires.count)) in
    let none : drop c.args.count (take c.args.count c.args.rows.now) ≡ [] = drop_all c.args.count _ (omega (arith, all)) in
    record {
      within = omega arith;
      room = c.requires.room;
      inside = omega arith;
      written = λ before is. drop_all 2400 c.args.text.now (omega (arith, c.told-text)) ∙ rw none (sym (lines_with-none before c.args.kinds.now));
    }

pub loop-row-preserved : goal.loop-row-preserved
loop-row-preserved g c =
    let row = c.loop-row.row - 1 in
    let rows = take c.args.count c.args.rows.now in
    let next : row + 1 ≡ c.loop-row.row = omega arith in
    let split = drop_more rows row [] (omega (arith, c.loop-row.invariant.within, length-take-le c.args.count c.args.rows.now (omega (arith, c.told-rows, c.requires.count)))) in
    let one : get_or rows row [] ≡ get_or c.args.rows.now row [] = get_or-take c.args.count c.args.rows.now row [] (omega (arith, c.loop-row.invariant.within)) in
    let wide : c.loop-row.row * (g.row.N * 24 + 22) ≡ row * (g.row.N * 24 + 22) + (g.row.N * 24 + 22) = ap (λ n. n * (g.row.N * 24 + 22)) (sym next) ∙ grind arith in
    record {
      within = omega (arith, c.loop-row.invariant.within);
      room = omega (arith, wide, c.loop-row.invariant.room, c.write_line_with-at.ensures.short);
      inside = omega (arith, c.loop-row.invariant.inside, c.write_line_with-at.ensures.start);
      written = λ before is.
          c.write_line_with-at.ensures.written before is
          ∙ ap (λ lines. line_with before c.args.kinds.now (get_or c.args.rows.now row []) ++ lines) (c.loop-row.invariant.written before is)
          ∙ sym (ap (lines_with before c.args.kinds.now) split ∙ rw (one, next) (lines_with-row before c.args.kinds.now _ _));
    }
