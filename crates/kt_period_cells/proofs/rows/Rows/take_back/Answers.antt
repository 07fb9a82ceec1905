-- One loss taken back: the entries stand for one less, and the rows stay within their bounds.
use Rattle.std.proofs.Common.{arith, sym, ◌∙◌}
use Rattle.kt_period_cells.proofs.Places.{placed_within}
use Rattle.kt_period_cells.proofs.RowBounds.{bound_after, table_bound, table_row, table_set}
use Rattle.kt_period_cells.proofs.TakenBack.{lowers_key, lowers_fits, row_length, lowers_stands, nowhere_stands}
use Rattle.kt_period_cells.proofs.rows.Rows.take_back.Goals as goal

pub index_mut-requires : goal.index_mut-requires
index_mut-requires c =
    let found = rw (← c.self.view_is) at (sym c.find.ensures.value ∙ c.in-Some.is) in
    let within = placed_within _ c.self.inside.rows.items c.in-Some.row found in
    omega (arith, within, c.self.inside.rows.ok.0)

pub lower-gone-requires : goal.lower-gone-requires
lower-gone-requires c =
    let found = rw (← c.self.view_is) at (sym c.find.ensures.value ∙ c.in-Some.is) in
    let within = placed_within _ c.self.inside.rows.items c.in-Some.row found in
    let fits = table_row _ _ _ _ c.self.inside.rows.items c.in-Some.row c.index_mut.result.now c.self.invariant within c.index_mut.ensures.value in
    fits.rising

pub overflow_sub-self : goal.overflow_sub-self
overflow_sub-self c =
    let found = rw (← c.self.view_is) at (sym c.find.ensures.value ∙ c.in-Some.is) in
    let within = placed_within _ c.self.inside.rows.items c.in-Some.row found in
    let lowers = c.lower-gone.ensures.value in
    omega (arith, lowers.count, row_length c.self.inside.rows.items c.in-Some.row c.index_mut.result.now within c.index_mut.ensures.value, c.self.invariant.count)

pub invariant_of-self : goal.invariant_of-self
invariant_of-self c =
    let found = rw (← c.self.view_is) at (sym c.find.ensures.value ∙ c.in-Some.is) in
    let within = placed_within _ c.self.inside.rows.items c.in-Some.row found in
    let fits = table_row _ _ _ _ c.self.inside.rows.items c.in-Some.row c.index_mut.result.now c.self.invariant within c.index_mut.ensures.value in
    let lowers = c.lower-gone.ensures.value in
    let after = lowers_fits _ _ _ _ _ _ _ _ c.requires fits lowers in
    let bound = table_bound _ _ _ _ c.self.inside.rows.items c.in-Some.row c.index_mut.result.now c.self.invariant within c.index_mut.ensures.value in
    table_set _ _ _ _ _ c.self.inside.rows.items c.in-Some.row c.index_mut.result.now c.lower-gone.new.self c.self.invariant within c.index_mut.ensures.value (lowers_key _ _ _ _ _ _ lowers) after
    (bound_after _ c.index_mut.result.now c.lower-gone.new.self bound after.cells c.lower-gone.ensures.bound)
    (omega (arith, lowers.count, row_length c.self.inside.rows.items c.in-Some.row c.index_mut.result.now within c.index_mut.ensures.value, c.self.invariant.count))

pub returns-in-Some-clause-taken : goal.returns-in-Some-clause-taken
returns-in-Some-clause-taken c = λ losses greatest some stands.
    let found = rw (← c.self.view_is) at (sym c.find.ensures.value ∙ c.in-Some.is) in
    let within = placed_within _ c.self.inside.rows.items c.in-Some.row found in
    let here = rw (← c.self.view_is) at stands in
    lowers_stands losses c.self.inside.rows.items c.args.change.key c.args.change.loss c.args.change.greatest c.in-Some.row c.sample_of-sample.result c.lower-gone.result c.index_mut.result.now c.lower-gone.new.self some greatest c.self.invariant.apart
    found within c.index_mut.ensures.value c.sample_of-sample.ensures.value c.lower-gone.ensures.value here

pub returns-in_default-clause-taken : goal.returns-in_default-clause-taken
returns-in_default-clause-taken c = λ losses greatest some stands.
    let missing = sym c.in_default.ensures.value in
    absurd (nowhere_stands losses c.args.self.now.rows c.args.change.key c.args.change.loss some missing stands)
