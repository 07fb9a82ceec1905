-- The losses of one pair more.
use Rattle.std.proofs.Common.{◌≡◌, ◌+◌, ◌≤◌, pos, List, length, take, get_or, arith, refl, sym, ap, subst, ◌∙◌, take_all}
use Rattle.std.specs.Prelude.{All, true, ◌≤ℤ◌}
use Rattle.std.specs.Vec.{with_items}
use Rattle.std.proofs.lemmas.List.{take_more, with_items_is}
use Rattle.std.proofs.lemmas.List.Elements.{All-get_or, All-weaker}
use Rattle.kt_stream.specs.declared.entry.Pair.{Pair}
use Rattle.kt_cell.specs.declared.cell.Cell.{Cell}
use Rattle.kt_period_cells.specs.declared.row.Row.{Row}
use Rattle.kt_cell.specs.Amounts.{sample_of}
use Rattle.kt_cell.specs.Losses.{is_added}
use Rattle.kt_period_cells.specs.Room.{Raises, added_sum}
use Rattle.kt_period_cells.specs.RowCells.{cell_in, cells_of}
use Rattle.kt_cell.specs.Standing.{most_total, one_of}
use Rattle.kt_period_cells.proofs.RoomLemmas.{low_sum}
use Rattle.kt_period_cells.proofs.RaisedRows.{raises_none, raises_passed, raises_more, room_left, total_left, added_place}
use Rattle.kt_period_cells.proofs.row.Row.raise_all.Goals as goal

-- no pair
abbrev none : Pair
none = record { sidx = pos 0; loss = 0 }

-- the row with other cells in its places
abbrev with_places : Row → List Cell → Row
with_places row cells = record row { places = with_items row.places cells }

-- and it has them
has_places : (row : Row) (cells : List Cell) → length cells ≡ length row.places.items → (with_places row cells).places.items ≡ cells
has_places row cells same = with_items_is row.places cells (same ∙ sym row.places.ok.0)

pub loop-pair-init : goal.loop-pair-init
loop-pair-init c =
    let same = c.as_mut_slice-places.ensures.value in
    record {
      len = ap length same;
      few = omega arith;
      raised = λ row key places. raises_none c.args.samples c.args.self.now row (omega (arith, c.requires.places)) key (places ∙ same);
    }

pub loop-pair-preserved-then-not-is_added : goal.loop-pair-preserved-then-not-is_added
loop-pair-preserved-then-not-is_added c =
    let pairs = c.args.pairs.now in
    let i = c.loop-pair.pair-index in
    let now = c.loop-pair.invariant in
    record {
      len = now.len;
      few = omega (arith, now.few);
      raised = λ row key places. rw (take_more pairs i none c.loop-pair-test.true) (raises_passed c.args.samples c.args.self.now row (take i pairs) (get_or pairs i none) c.loop-pair.opened (sym c.if-not-is_added.ensures) (now.raised row key places));
    }

pub raise-requires-clause-room : goal.raise-requires-clause-room
raise-requires-clause-room c =
    let here = has_places c.args.self.now c.loop-pair.places c.loop-pair.invariant.len in
    let mid : Row = with_places c.args.self.now c.loop-pair.places in
    rw here at (room_left c.args.samples c.args.self.now mid c.args.pairs.now c.loop-pair.pair-index c.loop-pair.opened none c.loop-pair-test.true (sym c.if-not-is_added.ensures) c.requires.room (c.loop-pair.invariant.raised mid refl here))

pub loop-pair-preserved : goal.loop-pair-preserved
loop-pair-preserved c =
    let pairs = c.args.pairs.now in
    let i = c.loop-pair.pair-index in
    let pair = get_or pairs i none in
    let here = has_places c.args.self.now c.loop-pair.places c.loop-pair.invariant.len in
    let mid : Row = with_places c.args.self.now c.loop-pair.places in
    let now = c.loop-pair.invariant.raised mid refl here in
    let added : is_added pair ≡ true = sym c.if-not-is_added.ensures in
    let low = All-get_or (λ (pair : Pair). pair.sidx ≤ℤ pos c.args.samples) pairs i none c.loop-pair-test.true c.requires.sidx in
    let place = added_place c.args.samples pair mid.places.items added low (now.len ∙ c.requires.places) in
    let room = room_left c.args.samples c.args.self.now mid pairs i c.loop-pair.opened none c.loop-pair-test.true added c.requires.room now in
    let before : c.raise.result ≡ cell_in (cells_of mid) (sample_of pair.sidx) = rw c.sample_of.ensures.value at (c.raise.ensures.before mid here) in
    let opened : c.loop-pair.opened + c.new_cells-opened.result + one_of (cell_in (cells_of mid) (sample_of pair.sidx)) ≡ c.loop-pair.opened + 1 = omega (arith, c.new_cells-opened.ensures.value, ap one_of before) in
    record {
      len = c.raise.ensures.len ∙ c.loop-pair.invariant.len;
      few = omega (arith, c.loop-pair.invariant.few, c.new_cells-opened.ensures.value);
      raised = λ row key places. rw (take_more pairs i none c.loop-pair-test.true)
          (raises_more c.args.samples c.args.self.now mid row (take i pairs) pair c.loop-pair.opened (c.loop-pair.opened + c.new_cells-opened.result) added low now (rw c.sample_of.ensures.value at (c.raise.ensures.value mid row here key places)) (ap length places ∙ c.raise.ensures.len ∙ sym (ap length here))
          (total_left mid (sample_of pair.sidx) pair.loss place room) (λ more fits. rw places (c.raise.ensures.room more (rw here at fits))) (λ most low. rw places (c.raise.ensures.totals most (rw here at low))) opened);
    }

pub returns : goal.returns
returns c =
    let now = c.loop-pair.invariant in
    let last : Row = record (with_places c.args.self.now c.loop-pair.places) { most = c.min.result + c.args.sum } in
    let places = has_places c.args.self.now c.loop-pair.places now.len in
    let raises : Raises c.args.samples c.args.self.now last c.args.pairs.now c.loop-pair.opened = subst (λ (pairs : List Pair). Raises c.args.samples c.args.self.now last pairs c.loop-pair.opened) (take_all c.loop-pair.pair-index c.args.pairs.now c.loop-pair-test.false) (now.raised last refl places) in
    let room : All (λ one. one.total + (added_sum c.args.pairs.now + 0) ≤ most_total) c.args.self.now.places.items = All-weaker (λ (one : Cell). one.total + added_sum c.args.pairs.now ≤ most_total) (λ (one : Cell). one.total + (added_sum c.args.pairs.now + 0) ≤ most_total) (λ one high. omega (arith, high)) c.args.self.now.places.items c.requires.room in
    record {
      value = raises;
      bound = λ bound. rw c.min.ensures (low_sum last.places.items c.args.self.now.most c.args.sum c.requires.few (rw (← c.requires.sum) at (raises.totals c.args.self.now.most bound)) (raises.room 0 room));
    }
