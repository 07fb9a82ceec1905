-- The losses of a record in one row: its cells stand for them too, and the rows stay within their bounds.
use Rattle.std.proofs.Common.{arith}
use Rattle.kt_period_cells.specs.Room.{added_sum}
use Rattle.kt_period_cells.proofs.Places.{keys_set}
use Rattle.kt_period_cells.proofs.RaisedRows.{wide_length}
use Rattle.kt_period_cells.proofs.RoomLemmas.{roomy_within, roomy_row, all_roomy_set}
use Rattle.kt_period_cells.proofs.RowBounds.{table_bound, table_row, table_set}
use Rattle.kt_period_cells.proofs.Tables.{length_set}
use Rattle.kt_period_cells.proofs.rows.Rows.add_spot.Goals as goal

pub index_mut-requires : goal.index_mut-requires
index_mut-requires c =
    let room = rw (← c.self.view_is) at c.requires.room in
    let within = roomy_within (added_sum c.args.pairs.now) c.self.inside.rows.items c.args.spot.now.row room in
    omega (arith, within, c.self.inside.rows.ok.0)

pub raise_all-opened-requires-clause-places : goal.raise_all-opened-requires-clause-places
raise_all-opened-requires-clause-places c =
    let room = rw (← c.self.view_is) at c.requires.room in
    let within = roomy_within (added_sum c.args.pairs.now) c.self.inside.rows.items c.args.spot.now.row room in
    let fits = table_row _ _ _ _ c.self.inside.rows.items c.args.spot.now.row c.index_mut.result.now c.self.invariant within c.index_mut.ensures.value in
    let roomy = roomy_row (added_sum c.args.pairs.now) c.self.inside.rows.items c.args.spot.now.row c.index_mut.result.now within c.index_mut.ensures.value room in
    wide_length c.self.inside.samples c.index_mut.result.now.places.items roomy.some fits.wide

pub raise_all-opened-requires-clause-sidx : goal.raise_all-opened-requires-clause-sidx
raise_all-opened-requires-clause-sidx c = rw (← c.self.view_is) at c.requires.sidx

pub raise_all-opened-requires-clause-room : goal.raise_all-opened-requires-clause-room
raise_all-opened-requires-clause-room c =
    let room = rw (← c.self.view_is) at c.requires.room in
    let within = roomy_within (added_sum c.args.pairs.now) c.self.inside.rows.items c.args.spot.now.row room in
    let roomy = roomy_row (added_sum c.args.pairs.now) c.self.inside.rows.items c.args.spot.now.row c.index_mut.result.now within c.index_mut.ensures.value room in
    roomy.room

pub overflow_add-self : goal.overflow_add-self
overflow_add-self c =
    let few = rw (← c.self.view_is) at c.requires.few in
    omega (arith, few, c.self.invariant.count, c.raise_all-opened.ensures.value.few)

pub invariant_of-self : goal.invariant_of-self
invariant_of-self c =
    let room = rw (← c.self.view_is) at c.requires.room in
    let within = roomy_within (added_sum c.args.pairs.now) c.self.inside.rows.items c.args.spot.now.row room in
    let fits = table_row _ _ _ _ c.self.inside.rows.items c.args.spot.now.row c.index_mut.result.now c.self.invariant within c.index_mut.ensures.value in
    let raises = c.raise_all-opened.ensures.value in
    table_set _ _ _ _ _ c.self.inside.rows.items c.args.spot.now.row c.index_mut.result.now c.raise_all-opened.new.self c.self.invariant within c.index_mut.ensures.value raises.key (raises.fits c.self.inside.periods fits)
    (c.raise_all-opened.ensures.bound (table_bound _ _ _ _ c.self.inside.rows.items c.args.spot.now.row c.index_mut.result.now c.self.invariant within c.index_mut.ensures.value)) (omega (arith, raises.count))

pub returns-clause-rows : goal.returns-clause-rows
returns-clause-rows c = rw (← c.self.view_is) (keys_set c.self.inside.rows.items c.args.spot.now.row c.index_mut.result.now c.raise_all-opened.new.self c.index_mut.ensures.value c.raise_all-opened.ensures.value.key)

pub returns-clause-count : goal.returns-clause-count
returns-clause-count c =
    let room = rw (← c.self.view_is) at c.requires.room in
    let within = roomy_within (added_sum c.args.pairs.now) c.self.inside.rows.items c.args.spot.now.row room in
    let raises = c.raise_all-opened.ensures.value in
    rw (← c.self.view_is) (omega (arith, length_set c.self.inside.rows.items c.args.spot.now.row c.index_mut.result.now c.raise_all-opened.new.self within c.index_mut.ensures.value, raises.count, raises.few))

pub returns-clause-room : goal.returns-clause-room
returns-clause-room c = λ more spots roomy.
    let room = rw (← c.self.view_is) at c.requires.room in
    let within = roomy_within (added_sum c.args.pairs.now) c.self.inside.rows.items c.args.spot.now.row room in
    let raises = c.raise_all-opened.ensures.value in
    all_roomy_set c.self.inside.rows.items c.args.spot.now.row c.raise_all-opened.new.self (added_sum c.args.pairs.now) more spots within
    (λ here. let row = roomy_row _ c.self.inside.rows.items c.args.spot.now.row c.index_mut.result.now within c.index_mut.ensures.value here in record { some = omega (arith, raises.len, row.some); room = raises.room more row.room })
    (rw (← c.self.view_is) at roomy)

pub returns-clause-step : goal.returns-clause-step
returns-clause-step c = λ perspective set summary before at stands.
    c.raise_all-opened.ensures.value.adds c.self.inside.rows.items c.args.spot.now.row perspective set summary c.args.spot.now.period before c.self.invariant.apart (rw (← c.self.view_is) at at) c.index_mut.ensures.value (rw (← c.self.view_is) at stands)
