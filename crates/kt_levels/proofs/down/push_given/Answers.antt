use Rattle.std.proofs.Common.{◌≡◌, ◌≤◌, ◌<◌, ◌∙◌, ℕ, List, length, slice_index, slice_index_or, ap, sym, subst, arith}
use Rattle.std.specs.List.{sum}
use Rattle.std.proofs.lemmas.Option.{IfSome_then}
use Rattle.std.proofs.lemmas.List.{get_or_default}
use Rattle.kt_money.specs.Sharing.{share_out}
use Rattle.kt_fmtree.specs.declared.node.Node.{Node}
use Rattle.kt_fmtree.specs.Placed.{no_node, node_at}
use Rattle.kt_lanes.specs.Lanes.{AreWide, IsLane, column}
use Rattle.kt_levels.specs.Units.{CanTake, child_losses}
use Rattle.kt_lanes.specs.Shares.{HasRoom}
use Rattle.kt_lanes.specs.SideBySide.{AreBehind}
use Rattle.kt_levels.specs.DownLaws.{backed-here}
use Rattle.kt_lanes.specs.BehindLaws.{behind-wide}
use Rattle.kt_levels.specs.GivenLaws.{all-given, more-given, none-given}
use Rattle.kt_levels.proofs.down.push_given.Goals as goal
use Rattle.kt_levels.proofs.down.push_given.Goals.{After-lane}

-- the next unit
inside : (c : After-lane) → c.loop-at.at < length c.args.parts.now.places.items
inside c = subst (λ (places : List ℕ). c.loop-at.at < length places) c.deref-place-items.ensures.value c.loop-at-test.true

-- its lane
long : (c : After-lane) → length c.lane.result.now ≡ c.args.width
long c = ap length c.lane.ensures.value ∙ c.requires.can.placed.wide c.loop-at.at c.lane.result.now (omega (arith, inside c, c.requires.can.placed.count_is))

abbrev none : Node
none = record { unit = 0; start = 0; width = 0; tiv = 0; profile = record { rule = 0; ded1 = 0; ded2 = 0; ded3 = 0; att1 = 0; lim1 = 0; share1 = 0; share2 = 0; share3 = 0 } }

-- and its children
node-is : (c : After-lane) → slice_index_or c.args.nodes.now (slice_index c.deref-place-items.result.now c.loop-at.at) none ≡ node_at c.args.nodes.now (slice_index c.args.parts.now.places.items c.loop-at.at)
node-is c =
    ap (λ (places : List ℕ). slice_index_or c.args.nodes.now (slice_index places c.loop-at.at) none) c.deref-place-items.ensures.value
    ∙ get_or_default c.args.nodes.now (slice_index c.args.parts.now.places.items c.loop-at.at) none no_node (c.requires.can.within c.loop-at.at 0 (inside c))

pub loop-at-init : goal.loop-at-init
loop-at-init c = record { room = c.requires.room; out = none-given c.args.width c.args.nodes.now c.args.below.now c.args.parts.now c.args.out.now }

pub push_shares_of-requires-clause-can : goal.push_shares_of-requires-clause-can
push_shares_of-requires-clause-can c =
    let at = (goal.at.push_shares_of-requires-clause-can c).After-lane in
    let place = slice_index c.args.parts.now.places.items c.loop-at.at in
    subst (λ n. CanTake n c.args.below.now (slice_index_or c.args.nodes.now (slice_index c.deref-place-items.result.now c.loop-at.at) none)) (sym (long at)) (subst (CanTake c.args.width c.args.below.now) (sym (node-is at)) (c.requires.can.can place no_node (c.requires.can.within c.loop-at.at 0 (inside at))))

pub push_shares_of-requires-clause-wide : goal.push_shares_of-requires-clause-wide
push_shares_of-requires-clause-wide c = subst (λ n. AreWide n c.args.below.now) (sym (long (goal.at.push_shares_of-requires-clause-wide c).After-lane)) c.requires.can.wide

pub push_shares_of-requires-clause-backed : goal.push_shares_of-requires-clause-backed
push_shares_of-requires-clause-backed c =
    let at = (goal.at.push_shares_of-requires-clause-backed c).After-lane in
    let lane = c.lane.result.now in
    λ k less.
    subst (λ (one : Node). slice_index lane k ≤ sum (child_losses (column k c.args.below.now) one)) (sym (node-is at))
    (backed-here c.args.width c.args.parts.now c.requires.can.placed c.loop-at.at (inside at) k c.args.nodes.now (column k c.args.below.now) (c.requires.can.backed k (subst (λ n. k < n) (long at) less)) lane c.lane.ensures.value)

pub push_shares_of-requires-clause-sums : goal.push_shares_of-requires-clause-sums
push_shares_of-requires-clause-sums c =
    let at = (goal.at.push_shares_of-requires-clause-sums c).After-lane in
    IfSome_then c.args.sums c.requires.sums
    (λ all are.
    subst (λ n. IsLane n (λ k. sum (child_losses (column k c.args.below.now) (slice_index_or c.args.nodes.now (slice_index c.deref-place-items.result.now c.loop-at.at) none))) all.now) (sym (long at))
    (subst (λ (one : Node). IsLane c.args.width (λ k. sum (child_losses (column k c.args.below.now) one)) all.now) (sym (node-is at)) (are c.loop-at.at 0 (inside at))))

pub push_shares_of-requires-clause-room : goal.push_shares_of-requires-clause-room
push_shares_of-requires-clause-room c = subst (λ n. HasRoom n c.loop-at.room) (sym (long (goal.at.push_shares_of-requires-clause-room c).After-lane)) c.loop-at.invariant.room

pub push_shares_of-requires-clause-out : goal.push_shares_of-requires-clause-out
push_shares_of-requires-clause-out c = subst (λ n. AreWide n c.loop-at.out) (sym (long (goal.at.push_shares_of-requires-clause-out c).After-lane)) (behind-wide c.args.width _ _ c.args.out.now c.loop-at.out c.requires.out c.loop-at.invariant.out)

pub loop-at-preserved : goal.loop-at-preserved
loop-at-preserved c =
    let at = (goal.at.loop-at-preserved c).After-lane in
    let lane = c.lane.result.now in
    let node = slice_index_or c.args.nodes.now (slice_index c.deref-place-items.result.now c.loop-at.at) none in
    record {
      room = subst (λ n. HasRoom n c.push_shares_of.new.room) (long at) c.push_shares_of.ensures.room;
      out =
          more-given c.args.width c.args.nodes.now c.args.below.now c.args.parts.now c.requires.can.placed c.loop-at.at (inside at) lane c.lane.ensures.value node (node-is at) c.args.out.now c.loop-at.out c.push_shares_of.new.out c.loop-at.invariant.out
          (subst (λ n. AreBehind n node.width (λ k. share_out (slice_index lane k) (child_losses (column k c.args.below.now) node)) c.loop-at.out c.push_shares_of.new.out) (long at) c.in_ok-push_shares_of.ensures.value);
    }

pub returns-clause-value : goal.returns-clause-value
returns-clause-value c =
    let parts = c.args.parts.now in
    let past : length parts.places.items ≤ c.loop-at.at = subst (λ (places : List ℕ). length places ≤ c.loop-at.at) c.deref-place-items.ensures.value (omega (arith, c.loop-at-test.false)) in
    all-given c.args.width c.args.nodes.now c.args.below.now parts c.requires.can.placed c.loop-at.at past c.args.out.now c.loop-at.out c.loop-at.invariant.out
