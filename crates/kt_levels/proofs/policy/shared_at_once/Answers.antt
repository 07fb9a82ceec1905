use Rattle.std.proofs.Common.{◌≡◌, ◌≤◌, ◌<◌, ◌^◌, ◌∙◌, take, drop, arith, ℕ, List, [], length, map, slice_index, slice_index_or, sym, ap, subst}
use Rattle.std.specs.List.{All, sum}
use Rattle.std.proofs.lemmas.Result.{on_ok_weaker}
use Rattle.kt_money.specs.Sharing.{share_out}
use Rattle.kt_lanes.specs.Lanes.{AreLanes, AreWide, column}
use Rattle.kt_lanes.specs.LaneLaws.{part-all}
use Rattle.kt_lanes.specs.Shares.{HasRoom}
use Rattle.kt_lanes.specs.SideBySide.{AreBehind}
use Rattle.kt_levels.specs.PoliciesLaws.{at-once, beneath-few, beneath-members}
use Rattle.kt_levels.proofs.policy.shared_at_once.Goals as goal
use Rattle.kt_levels.proofs.policy.shared_at_once.Goals.{After-len-count}

-- the places of the ids beneath are among all
places-within : (c : After-len-count) → All (λ place. place < length c.args.programme.now.ids) c.in_ok-places.places.items
places-within c = subst (λ (ids : List ℕ). All (λ place. place < length ids) c.in_ok-places.places.items) c.ids.ensures.value c.in_ok-places.ensures.within

-- they are those of the ids
places-found : (c : After-len-count) → map (slice_index c.args.programme.now.ids) c.in_ok-places.places.items ≡ slice_index_or c.args.programme.now.beneath c.args.node []
places-found c = ap (λ (ids : List ℕ). map (slice_index ids) c.in_ok-places.places.items) (sym c.ids.ensures.value) ∙ (c.in_ok-places.ensures.value ∙ c.beneath.ensures.value)

-- the lanes in these places
losses-are : (c : After-len-count) → AreLanes c.args.climbed.now.width (length c.in_ok-places.places.items) (λ k. map (slice_index (column k c.args.lanes.now)) c.in_ok-places.places.items) c.in_ok-losses.losses
losses-are c =
    subst (λ (all : List ℕ). AreLanes c.args.climbed.now.width (length all) (λ k. map (slice_index (column k c.args.lanes.now)) all) c.in_ok-losses.losses) c.deref.ensures.value c.in_ok-losses.ensures.value

-- all of them
all-are : (c : After-len-count) → take c.len-count.result (drop 0 c.in_ok-losses.losses) ≡ c.in_ok-losses.losses
all-are c = ap (λ n. take n c.in_ok-losses.losses) c.len-count.ensures.value ∙ part-all c.in_ok-losses.losses

-- they are not below the policy losses, and not too much
few : (c : After-len-count) → (k : ℕ) → k < length c.args.policy.now → (slice_index c.args.policy.now k ≤ sum (column k c.in_ok-losses.losses)) × (sum (column k c.in_ok-losses.losses) ≤ 10 ^ 16)
few c = λ k less.
    beneath-few c.args.programme.now c.is_of_a_tree.ensures.kept c.args.lanes.now c.args.climbed.now c.requires.climbed c.args.node c.requires.node c.args.layer c.args.policy.now c.requires.policy c.in_ok-places.places.items (places-within c) (places-found c) c.in_ok-losses.losses (losses-are c) k
    (subst (λ n. k < n) c.requires.policy.wide less)

pub places_of-requires-clause-members : goal.places_of-requires-clause-members
places_of-requires-clause-members c = beneath-members c.args.programme.now c.is_of_a_tree.ensures.kept c.args.lanes.now c.args.climbed.now c.requires.climbed c.args.node c.requires.node c.beneath.result.now c.ids.result.now c.beneath.ensures.value c.ids.ensures.value

pub share_lanes-requires-clause-within : goal.share_lanes-requires-clause-within
share_lanes-requires-clause-within c = omega (arith, c.len-count.ensures.value)

pub share_lanes-requires-clause-wide : goal.share_lanes-requires-clause-wide
share_lanes-requires-clause-wide c = subst (λ n. AreWide n c.in_ok-losses.losses) (sym c.requires.policy.wide) c.in_ok-losses.ensures.value.wide

pub share_lanes-requires-clause-room : goal.share_lanes-requires-clause-room
share_lanes-requires-clause-room c = subst (λ n. HasRoom n c.args.room.now.room) (sym c.requires.policy.wide) c.requires.room

pub share_lanes-requires-clause-out : goal.share_lanes-requires-clause-out
share_lanes-requires-clause-out c = subst (λ n. AreWide n c.args.out.now) (sym c.requires.policy.wide) c.requires.out

pub share_lanes-requires-clause-few : goal.share_lanes-requires-clause-few
share_lanes-requires-clause-few c = λ k less.
    let at = (goal.at.share_lanes-requires-clause-few c).After-len-count in
    subst (λ (each : List (List ℕ)). sum (column k each) ≤ 10 ^ 16) (sym (all-are at)) (few at k less).1

pub share_lanes-requires-clause-backed : goal.share_lanes-requires-clause-backed
share_lanes-requires-clause-backed c = λ k less.
    let at = (goal.at.share_lanes-requires-clause-backed c).After-len-count in
    subst (λ (each : List (List ℕ)). slice_index c.args.policy.now k ≤ sum (column k each)) (sym (all-are at)) (few at k less).0

pub returns-clause-room : goal.returns-clause-room
returns-clause-room c = on_ok_weaker c.share_lanes.result (λ shares. subst (λ n. HasRoom n c.share_lanes.new.room) c.requires.policy.wide c.share_lanes.ensures.room) c.share_lanes.ensures.value

pub returns-clause-value : goal.returns-clause-value
returns-clause-value c =
    let at = (goal.at.returns-clause-value c).After-len-count in
    let lanes = c.in_ok-losses.losses in
    let policy = c.args.policy.now in
    on_ok_weaker c.share_lanes.result (λ behind.
    let shares = subst (λ n. AreBehind (length policy) n (λ k. share_out (slice_index policy k) (column k (take c.len-count.result (drop 0 lanes)))) c.args.out.now c.share_lanes.new.out) c.len-count.ensures.value behind in
    at-once c.args.programme.now c.is_of_a_tree.ensures.kept c.args.lanes.now c.args.climbed.now c.requires.climbed c.args.node c.requires.node c.args.layer policy c.requires.policy c.in_ok-places.places.items (places-within at) (places-found at) lanes (losses-are at) c.args.out.now c.share_lanes.new.out
    (subst (λ n. AreBehind n (length lanes) (λ k. share_out (slice_index policy k) (column k lanes)) c.args.out.now c.share_lanes.new.out) c.requires.policy.wide
    (subst (λ (each : List (List ℕ)). AreBehind (length policy) (length lanes) (λ k. share_out (slice_index policy k) (column k each)) c.args.out.now c.share_lanes.new.out) (all-are at) shares)))
    c.share_lanes.ensures.value
