-- A record's losses, in the rows of its occurrences.
use Rattle.std.proofs.Common.{◌≡◌, [], sym, ap, arith, append-nil}
use Rattle.std.proofs.lemmas.Grind.{common_steps}
use Rattle.std.specs.List.{flat_map}
use Rattle.kt_cell.specs.Losses.{Added, all_losses, losses_of, pair_losses}
use Rattle.kt_cell.specs.Standing.{Standing, first_stop}
use Rattle.kt_period_cells.specs.Rows.{entries_of, spot_losses}
use Rattle.kt_period_cells.proofs.Walks.{all_losses_push}
use Rattle.kt_period_cells.proofs.Spots.{losses_same, no_losses}
use Rattle.kt_period_cells.proofs.cells.Cells.add.Goals as goal

pub returns-in-Ok-add_pairs-clause-added : goal.returns-in-Ok-add_pairs-clause-added
returns-in-Ok-add_pairs-clause-added c = λ history stands.
    let here = rw (← c.self.view_is) at stands in
    let begins : Standing (all_losses history) (entries_of c.spots.new.self.rows) = rw c.in-Ok.ensures.entries here in
    let same : flat_map (spot_losses c.args.perspective c.args.set c.args.entry.now.summary c.in-Ok.spots.items) c.args.entry.now.pairs ≡ flat_map (pair_losses c.args.perspective c.args.set c.args.entry.now.summary c.args.at.now) c.args.entry.now.pairs =
    losses_same c.args.perspective c.args.set c.args.entry.now.summary c.args.entry.now.pairs c.in-Ok.spots.items c.args.at.now c.in-Ok.ensures.periods in
    let goes = rw (c.as_slice-pairs.ensures.value, c.as_slice-struck.ensures.value, same) at (c.in-Ok-add_pairs.ensures.step (all_losses history) begins) in
    (goes.clear, rw (all_losses_push history (record { perspective = c.args.perspective; set = c.args.set; entry = c.args.entry.now; at = c.args.at.now })) goes.stands)

pub returns-clause-added : goal.returns-clause-added
returns-clause-added c = λ history stands.
    let here = rw (← c.self.view_is) at stands in
    let begins : Standing (all_losses history) (entries_of c.spots.new.self.rows) = rw c.in-Ok.ensures.entries here in
    let same : flat_map (spot_losses c.args.perspective c.args.set c.args.entry.now.summary c.in-Ok.spots.items) c.args.entry.now.pairs ≡ flat_map (pair_losses c.args.perspective c.args.set c.args.entry.now.summary c.args.at.now) c.args.entry.now.pairs =
    losses_same c.args.perspective c.args.set c.args.entry.now.summary c.args.entry.now.pairs c.in-Ok.spots.items c.args.at.now c.in-Ok.ensures.periods in
    let goes = rw (c.as_slice-pairs.ensures.value, c.as_slice-struck.ensures.value, same) at (c.in-Err-add_pairs.ensures.step (all_losses history) begins) in
    (goes.0, c.take_all_back.ensures.returned (all_losses history) goes.1)

pub returns-in-Some-clause-added : goal.returns-in-Some-clause-added
returns-in-Some-clause-added c = λ history stands.
    let here = rw (← c.self.view_is) at stands in
    let begins : Standing (all_losses history) (entries_of c.spots.new.self.rows) = rw c.in-Ok.ensures.entries here in
    let same : flat_map (spot_losses c.args.perspective c.args.set c.args.entry.now.summary c.in-Ok.spots.items) c.args.entry.now.pairs ≡ flat_map (pair_losses c.args.perspective c.args.set c.args.entry.now.summary c.args.at.now) c.args.entry.now.pairs =
    losses_same c.args.perspective c.args.set c.args.entry.now.summary c.args.entry.now.pairs c.in-Ok.spots.items c.args.at.now c.in-Ok.ensures.periods in
    let clear = rw (c.as_slice-pairs.ensures.value, c.as_slice-struck.ensures.value, same) at (c.add_within.ensures.step c.args.perspective c.args.set c.args.entry.now.summary (all_losses history) (rw c.as_slice-struck.ensures.value c.in-Ok.ensures.spots) begins) in
    (clear.clear, rw (all_losses_push history (record { perspective = c.args.perspective; set = c.args.set; entry = c.args.entry.now; at = c.args.at.now })) clear.stands)

pub returns-then-not-adds_any-clause-added : goal.returns-then-not-adds_any-clause-added
returns-then-not-adds_any-clause-added c = λ history stands.
    let added : Added = record { perspective = c.args.perspective; set = c.args.set; entry = c.args.entry.now; at = c.args.at.now } in
    let none = rw c.as_slice-pairs.ensures.value at (sym c.if-not-adds_any.ensures) in
    let empty : losses_of added ≡ [] = no_losses c.args.perspective c.args.set c.args.entry.now.summary c.args.at.now c.args.entry.now.pairs none in
    (ap (first_stop (all_losses history)) empty, rw (all_losses_push history added, empty, append-nil (all_losses history)) stands)

pub returns-in-Err-clause-added : goal.returns-in-Err-clause-added
returns-in-Err-clause-added c = grind (arith, common_steps)

pub returns-in-Err-with_capacity-clause-added : goal.returns-in-Err-with_capacity-clause-added
returns-in-Err-with_capacity-clause-added c = grind (arith, common_steps)

pub add_pairs-requires : goal.add_pairs-requires
add_pairs-requires c = grind (arith, common_steps)
