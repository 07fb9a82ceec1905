-- The losses of a record, row by row.
use Rattle.std.proofs.Common.{◌≡◌, ◌+◌, ◌-◌, ◌*◌, ◌≤◌, ℕ, List, ◌++◌, length, take, take_all, get_or, arith, add-mul, refl, ap, ◌∙◌, append-nil}
use Rattle.std.specs.List.{flat_map}
use Rattle.std.proofs.lemmas.List.Elements.{All-get_or}
use Rattle.std.proofs.lemmas.Nat.{mul-le}
use Rattle.kt_period_cells.specs.declared.rows.Spot.{Spot}
use Rattle.kt_cell.specs.Losses.{KeyLoss}
use Rattle.kt_period_cells.specs.Room.{IsRoomyAt, added_sum}
use Rattle.kt_period_cells.specs.Rows.{entries_of, row_keys, IsSpot}
use Rattle.kt_cell.specs.Standing.{Standing}
use Rattle.kt_period_cells.specs.SummaryRows.{row_at}
use Rattle.kt_period_cells.proofs.RaisedRows.{clear_in_order}
use Rattle.kt_period_cells.proofs.RoomLemmas.{roomy_less, roomy_same, one_less}
use Rattle.kt_period_cells.proofs.SameLosses.{in_row, in_rows, row_by_row, spots_more}
use Rattle.kt_period_cells.proofs.rows.Rows.add_within.Goals as goal

-- no spot
abbrev none : Spot
none = record { period = 0; row = 0 }

-- so many times an amount, and once more
part-le : (a b i n : ℕ) → i + 1 ≤ n → a + i * b + b ≤ a + n * b
part-le a b i n less = let more : (i + 1) * b ≤ n * b = mul-le (i + 1) b n b less (omega arith) in let next : (i + 1) * b ≡ i * b + b = simp (add-mul) (omega arith) in omega (arith, more, next)

pub loop-spot-init : goal.loop-spot-init
loop-spot-init c = record {
  size = (refl, refl);
  rows = refl;
  count = omega arith;
  room = let whole : length c.args.spots.now ≡ length c.args.spots.now - 0 = omega arith in roomy_same (length c.args.spots.now * added_sum c.args.pairs.now) ((length c.args.spots.now - 0) * added_sum c.args.pairs.now) c.args.spots.now c.args.self.now.rows (ap (λ n. n * added_sum c.args.pairs.now) whole) c.requires.room;
  step = λ p s u before at stands. rw (append-nil before) stands;
}

pub add_spot-requires-clause-few : goal.add_spot-requires-clause-few
add_spot-requires-clause-few c =
    let part = part-le (length (entries_of c.args.self.now.rows)) (length c.args.pairs.now) c.loop-spot.spot-index (length c.args.spots.now) (omega (arith, c.loop-spot-test.true)) in
    omega (arith, c.loop-spot.invariant.count, part, c.requires.few)

pub add_spot-requires-clause-room : goal.add_spot-requires-clause-room
add_spot-requires-clause-room c =
    let n = length c.args.spots.now in
    let i = c.loop-spot.spot-index in
    let sum = added_sum c.args.pairs.now in
    let here = All-get_or (λ (spot : Spot). IsRoomyAt ((n - i) * sum) (row_at c.loop-spot.self.rows spot.row)) c.args.spots.now i none c.loop-spot-test.true c.loop-spot.invariant.room in
    roomy_less ((n - i) * sum) sum (omega (arith, one_less n i sum 0 c.loop-spot-test.true)) (row_at c.loop-spot.self.rows (get_or c.args.spots.now i none).row) here

pub loop-spot-preserved : goal.loop-spot-preserved
loop-spot-preserved c =
    let n = length c.args.spots.now in
    let i = c.loop-spot.spot-index in
    let sum = added_sum c.args.pairs.now in
    let now = c.loop-spot.invariant in
    let spot = get_or c.args.spots.now i none in
    let longer : (i + 1) * length c.args.pairs.now ≡ i * length c.args.pairs.now + length c.args.pairs.now = simp (add-mul) (omega arith) in
    record {
      size = (c.add_spot.ensures.size.0 ∙ now.size.0, c.add_spot.ensures.size.1 ∙ now.size.1);
      rows = c.add_spot.ensures.rows ∙ now.rows;
      count = omega (arith, c.add_spot.ensures.count, now.count, longer);
      room = c.add_spot.ensures.room ((n - (i + 1)) * sum) c.args.spots.now (roomy_same ((n - i) * sum) (sum + (n - (i + 1)) * sum) c.args.spots.now c.loop-spot.self.rows (omega (arith, one_less n i sum 0 c.loop-spot-test.true)) now.room);
      step = λ p s u before at stands.
          let f : Spot → List KeyLoss = in_row p s u c.args.pairs.now in
          let here : IsSpot p s u (row_keys c.loop-spot.self.rows) spot = rw now.rows (All-get_or (IsSpot p s u (row_keys c.args.self.now.rows)) c.args.spots.now i none c.loop-spot-test.true at) in
          let all = c.add_spot.ensures.step p s u (before ++ flat_map f (take i c.args.spots.now)) here (now.step p s u before at stands) in
          rw (spots_more p s u c.args.pairs.now c.args.spots.now i none before c.loop-spot-test.true) all;
    }

pub returns-clause-step : goal.returns-clause-step
returns-clause-step c = λ p s u before at stands.
    let pairs = c.args.pairs.now in
    let spots = c.args.spots.now in
    let whole : take c.loop-spot.spot-index spots ≡ spots = take_all c.loop-spot.spot-index spots c.loop-spot-test.false in
    let all : Standing (before ++ flat_map (in_row p s u pairs) spots) (entries_of c.loop-spot.self.rows) = rw whole at (c.loop-spot.invariant.step p s u before at stands) in
    clear_in_order before (in_rows p s u pairs spots) (flat_map (in_row p s u pairs) spots) (entries_of c.loop-spot.self.rows) (row_by_row p s u pairs spots) all c.keeps_totals.ensures (let most = mul-le c.loop-spot.spot-index (length pairs) (length spots) (length pairs) (omega (arith, c.loop-spot.auto.spot-index-end)) (omega arith) in omega (arith, c.loop-spot.invariant.count, c.requires.few, most))
