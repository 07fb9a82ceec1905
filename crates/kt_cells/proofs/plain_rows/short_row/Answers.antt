use Rattle.std.proofs.Common.{◌++◌, ◌∙◌, sym}
use Rattle.kt_cells.proofs.TextLemmas.{column-more, columns-all, few-columns, plain-start, plain-goes_on, plain-all}
use Rattle.kt_cells.proofs.plain_rows.short_row.Goals as goal

pub with_field-requires : goal.with_field-requires
with_field-requires g c =
    let small = few-columns g.row.N c.requires.few in
    (small.0, (small.1, (small.2, c.requires.some)))

pub with_field-requires-2 : goal.with_field-requires-2
with_field-requires-2 g c =
    let small = few-columns g.row.N c.requires.few in
    let two = column-more 1 g.row.N c.requires.some c.if-this-eq1.false in
    (small.0, (small.1, (small.2, two)))

pub with_field-requires-3 : goal.with_field-requires-3
with_field-requires-3 g c =
    let small = few-columns g.row.N c.requires.few in
    let two = column-more 1 g.row.N c.requires.some c.if-this-eq1.false in
    let three = column-more 2 g.row.N two c.if-this-eq2.false in
    (small.0, (small.1, (small.2, three)))

pub with_field-requires-4 : goal.with_field-requires-4
with_field-requires-4 g c =
    let small = few-columns g.row.N c.requires.few in
    let two = column-more 1 g.row.N c.requires.some c.if-this-eq1.false in
    let three = column-more 2 g.row.N two c.if-this-eq2.false in
    let four = column-more 3 g.row.N three c.if-this-eq3.false in
    (small.0, (small.1, (small.2, four)))

pub with_field-requires-5 : goal.with_field-requires-5
with_field-requires-5 g c =
    let small = few-columns g.row.N c.requires.few in
    let two = column-more 1 g.row.N c.requires.some c.if-this-eq1.false in
    let three = column-more 2 g.row.N two c.if-this-eq2.false in
    let four = column-more 3 g.row.N three c.if-this-eq3.false in
    let five = column-more 4 g.row.N four c.if-this-eq4.false in
    (small.0, (small.1, (small.2, five)))

pub returns-then-this-eq1-clause-row : goal.returns-then-this-eq1-clause-row
returns-then-this-eq1-clause-row g c = λ more.
    let one = c.in_ok-first.ensures.read c.args.floor (c.args.text.now ++ more) more (plain-start c.args.floor (c.in_ok-rest.ensures.begins_front more) (c.told-values ∙ sym c.told-kinds)) in
    plain-all one c.if-this-eq1.true c.told-kinds

pub returns-then-this-eq2-clause-row : goal.returns-then-this-eq2-clause-row
returns-then-this-eq2-clause-row g c = λ more.
    let one = c.in_ok-first.ensures.read c.args.floor (c.args.text.now ++ more) more (plain-start c.args.floor (c.in_ok-rest.ensures.begins_front more) (c.told-values ∙ sym c.told-kinds)) in
    let two = c.in_ok-second.ensures.read c.args.floor (c.args.text.now ++ more) more (plain-goes_on one c.if-this-eq1.false) in
    plain-all two c.if-this-eq2.true c.told-kinds

pub returns-then-this-eq3-clause-row : goal.returns-then-this-eq3-clause-row
returns-then-this-eq3-clause-row g c = λ more.
    let one = c.in_ok-first.ensures.read c.args.floor (c.args.text.now ++ more) more (plain-start c.args.floor (c.in_ok-rest.ensures.begins_front more) (c.told-values ∙ sym c.told-kinds)) in
    let two = c.in_ok-second.ensures.read c.args.floor (c.args.text.now ++ more) more (plain-goes_on one c.if-this-eq1.false) in
    let three = c.in_ok-third.ensures.read c.args.floor (c.args.text.now ++ more) more (plain-goes_on two c.if-this-eq2.false) in
    plain-all three c.if-this-eq3.true c.told-kinds

pub returns-then-this-eq4-clause-row : goal.returns-then-this-eq4-clause-row
returns-then-this-eq4-clause-row g c = λ more.
    let one = c.in_ok-first.ensures.read c.args.floor (c.args.text.now ++ more) more (plain-start c.args.floor (c.in_ok-rest.ensures.begins_front more) (c.told-values ∙ sym c.told-kinds)) in
    let two = c.in_ok-second.ensures.read c.args.floor (c.args.text.now ++ more) more (plain-goes_on one c.if-this-eq1.false) in
    let three = c.in_ok-third.ensures.read c.args.floor (c.args.text.now ++ more) more (plain-goes_on two c.if-this-eq2.false) in
    let four = c.in_ok-fourth.ensures.read c.args.floor (c.args.text.now ++ more) more (plain-goes_on three c.if-this-eq3.false) in
    plain-all four c.if-this-eq4.true c.told-kinds

pub returns-clause-row : goal.returns-clause-row
returns-clause-row g c = λ more.
    let one = c.in_ok-first.ensures.read c.args.floor (c.args.text.now ++ more) more (plain-start c.args.floor (c.in_ok-rest.ensures.begins_front more) (c.told-values ∙ sym c.told-kinds)) in
    let two = c.in_ok-second.ensures.read c.args.floor (c.args.text.now ++ more) more (plain-goes_on one c.if-this-eq1.false) in
    let three = c.in_ok-third.ensures.read c.args.floor (c.args.text.now ++ more) more (plain-goes_on two c.if-this-eq2.false) in
    let four = c.in_ok-fourth.ensures.read c.args.floor (c.args.text.now ++ more) more (plain-goes_on three c.if-this-eq3.false) in
    let five = c.in_ok-fifth.ensures.read c.args.floor (c.args.text.now ++ more) more (plain-goes_on four c.if-this-eq4.false) in
    let least = column-more 4 g.row.N (column-more 3 g.row.N (column-more 2 g.row.N (column-more 1 g.row.N c.requires.some c.if-this-eq1.false) c.if-this-eq2.false) c.if-this-eq3.false) c.if-this-eq4.false in
    plain-all five (columns-all 5 g.row.N c.requires.few least) c.told-kinds
