use Rattle.std.proofs.Common.{◌≡◌, ◌==◌, false, true, sym, ◌∙◌, arith}
use Rattle.std.proofs.lemmas.Bool.{eq-eqb, ne_eqb}
use Rattle.kt_rec.specs.declared.kind.Kind.TheVariants.{Id}
use Rattle.kt_cells.proofs.TextLemmas.{plain-start, plain-front, plain-end}
use Rattle.kt_cells.proofs.plain_rows.long_row.Goals as goal

pub loop-column-init : goal.loop-column-init
loop-column-init g c =
    let here : (0 == g.row.N) ≡ false = ne_eqb 0 g.row.N (λ e. omega (arith, e, c.requires.some)) in
    (λ more. rw here (plain-start c.args.floor (c.in_ok-rest.ensures.begins_front more) (c.told-values ∙ sym c.told-kinds)), c.in_ok-rest.ensures.shorter)

pub loop-column-preserved : goal.loop-column-preserved
loop-column-preserved g c =
    let here : (c.loop-column.column == g.row.N) ≡ false = ne_eqb c.loop-column.column g.row.N (λ e. omega (arith, c.loop-column-test.true)) in
    let read = c.in_ok-field.ensures.field in (
      λ more.
          rw c.rule_after-rule.ensures (plain-front c.loop-column.rest.now more (rw here at (c.loop-column.invariant.0 more)) Id _ read.size c.in_ok-field.field.value c.in_ok-field.field.rest.now
          (omega (arith, c.told-kinds, c.loop-column-test.true)) read.within (c.fields_stay_fields.ensures _ more _ read.field read.within)
          (rw c.under.ensures at read.good) (omega (arith, c.if-field-least.false)) (read.behind more)),
      omega (arith, c.loop-column.invariant.1, c.in_ok-field.ensures.shorter),
    )

pub returns-clause-row : goal.returns-clause-row
returns-clause-row g c =
    let all : c.loop-column.column ≡ g.row.N = omega (arith, c.loop-column-test.false, c.loop-column.auto.column-end) in
    let here : (c.loop-column.column == g.row.N) ≡ true = eq-eqb c.loop-column.column g.row.N all in
    λ more. plain-end (rw here at (c.loop-column.invariant.0 more)) (all ∙ sym c.told-kinds)
