use Rattle.std.proofs.Common.{◌≡◌, ◌+◌, ◌-◌, ◌++◌, ◌∷◌, ◌∙◌, [], ap, arith, drop, get_or, min, refl, subst, sym}
use Rattle.std.proofs.lemmas.Bool.{ne_eqb}
use Rattle.std.proofs.lemmas.List.{drop-set}
use Rattle.std.proofs.Math.ListN.{length-set, set}
use Rattle.kt_cells.specs.Lines.{LineFrom, separator, units_under}
use Rattle.kt_cells.specs.Texts.{value_text}
use Rattle.kt_rec.specs.declared.kind.Kind.TheVariants.{Id}
use Rattle.kt_cells.proofs.FieldLemmas.{line_from-more}
use Rattle.kt_cells.proofs.lines.write_field.Goals as goal

pub returns-then-column-clause-line : goal.returns-then-column-clause-line
returns-then-column-clause-line g c = λ kinds last after units same now.
    let none : min g.row.N (c.args.column + 1) ≡ min g.row.N c.args.column = omega (arith, c.if-column.true) in
    subst (λ n. LineFrom kinds c.args.values.now last after c.args.text.now c.args.end n) none now

pub returns-then-column-eq0-clause-line : goal.returns-then-column-eq0-clause-line
returns-then-column-eq0-clause-line g c = λ kinds last after units same now.
    let next : min g.row.N (c.args.column + 1) ≡ c.args.column + 1 = omega (arith, c.if-column.false) in
    let here : c.args.column ≡ min g.row.N c.args.column = omega (arith, c.if-column.false) in
    let none : separator c.args.column ≡ [] = rw c.if-column-eq0.true refl in
    let field = value_text (get_or (units_under 0 kinds c.args.values.now) c.args.column Id) (get_or c.args.values.now c.args.column 0) in
    subst (λ n. LineFrom kinds c.args.values.now last after c.write_value-start.new.text c.write_value-start.result n) here
    (line_from-more (rw next at now) c.write_value-start.new.text c.write_value-start.result Id
    (omega (arith, same, c.told-values))
    ((rw units at c.write_value-start.ensures.written) ∙ ap (λ before. before ++ (field ++ drop c.args.end c.args.text.now)) (sym none))
    c.write_value-start.auto.text
    c.write_value-start.ensures.start
    (omega (arith, c.write_value-start.ensures.short)))

pub returns-clause-line : goal.returns-clause-line
returns-clause-line g c = λ kinds last after units same now.
    let next : min g.row.N (c.args.column + 1) ≡ c.args.column + 1 = omega (arith, c.if-column.false) in
    let here : c.args.column ≡ min g.row.N c.args.column = omega (arith, c.if-column.false) in
    let start = c.write_value-start.result in
    let value = c.write_value-start.new.text in
    let behind : start - 1 + 1 ≡ start = omega (arith, c.requires.room, c.write_value-start.ensures.short) in
    let comma : separator c.args.column ≡ 44 ∷ [] = rw (ne_eqb c.args.column 0 c.if-column-eq0.false) refl in
    let field = value_text (get_or (units_under 0 kinds c.args.values.now) c.args.column Id) (get_or c.args.values.now c.args.column 0) in
    subst (λ n. LineFrom kinds c.args.values.now last after (set value (start - 1) 44) (start - 1) n) here
    (line_from-more (rw next at now) (set value (start - 1) 44) (start - 1) Id
    (omega (arith, same, c.told-values))
    ((rw behind at (drop-set value (start - 1) 44 (omega (arith, c.told-text, c.write_value-start.auto.text, c.requires.within, c.write_value-start.ensures.start, behind))))
    ∙ ap (λ text. 44 ∷ text) (rw units at c.write_value-start.ensures.written) ∙ ap (λ before. before ++ (field ++ drop c.args.end c.args.text.now)) (sym comma))
    (length-set value (start - 1) 44 ∙ c.write_value-start.auto.text)
    (omega (arith, c.write_value-start.ensures.start))
    (omega (arith, c.write_value-start.ensures.short)))
