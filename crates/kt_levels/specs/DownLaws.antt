-- Laws of amounts that are given down by lanes.
-- The rule: docs/FINANCIAL_MODULE.md, "Allocation".
use Rattle.std.specs.Prelude.{◌≡◌, ◌⊎◌, ℕ, zero, suc, ◌+◌, ◌*◌, ◌/◌, ◌<◌, ◌≤◌, Bool, true, false, cond, nat_eq, List, [], ◌∷◌, ◌++◌, All, length, map, take, drop, slice_index, slice_index_or, replicate}
use Rattle.std.specs.List.{AllByRecursion, flat_map, range_with_len, sum, sum_by}
use Rattle.std.proofs.Common.{inl, inr, refl, sym, ap, subst, ◌∙◌, arith}
use Rattle.std.proofs.Math.Nat.{zero-div}
use Rattle.std.proofs.lemmas.Bool.{cases_lt, eqb-true}
use Rattle.std.proofs.lemmas.List.{length-map, length-append, length-drop, length-take-le, map-append, take_all, get_or-take, get_or-drop}
use Rattle.std.proofs.lemmas.List.Elements.{All-from_recursion, recursion_from_All}
use Rattle.std.proofs.lemmas.List.Sums.{sum-map}
use Rattle.kt_money.specs.Sharing.{share_of, shares_after, share_out}
use Rattle.kt_money.specs.SharingLaws.{share_of-le}
use Rattle.kt_rules.specs.Amounts.{total}
use Rattle.kt_rules.specs.LossAlone.{loss_after-le}
use Rattle.kt_rules.specs.Profiles.{IsProfile}
use Rattle.kt_rules.specs.declared.carry.Carry.{Carry}
use Rattle.kt_rec.specs.Sums.{each_flat_map}
use Rattle.kt_fmtree.specs.TreeLaws.{shares_of}
use Rattle.kt_fmtree.specs.Carried.{node_carry, row_of}
use Rattle.kt_fmtree.specs.Parts.{Parts, HasProgramme}
use Rattle.kt_fmtree.specs.LoopLaws.{flat_map-goes}
use Rattle.kt_fmtree.specs.declared.node.Node.{Node}
use Rattle.kt_fmtree.specs.DownLaws.{shares-length}
use Rattle.kt_fmtree.specs.Placed.{weights, amounts_for, parts_from, children_of, no_node, node_at, given_by, level_down}
use Rattle.kt_fmtree.specs.declared.part.PlacedPart.{PlacedPart}
use Rattle.kt_lanes.specs.Lanes.{column, AreLanes}
use Rattle.kt_levels.specs.Units.{losses_of, child_losses}
use Rattle.kt_lanes.specs.LaneLaws.{column-at}
use Rattle.kt_levels.specs.Climbed.{HasPlainUnits}
use Rattle.kt_levels.specs.ClimbedLaws.{child_losses-of, node_carry-loss}
use Rattle.kt_levels.specs.Down.{placed, placed_at, amounts_of, child_places, ArePlaced, CanGiveBy, given_losses, AreBacked}
use Rattle.kt_levels.specs.declared.down.PlacedLanes.{PlacedLanes}

-- ---- amounts in places

pub length-placed : (places amounts : List ℕ) → length places ≡ length amounts → length (placed places amounts) ≡ length places
length-placed [] amounts same = refl
length-placed (place ∷ places) [] same = absurd (omega arith)
length-placed (place ∷ places) (amount ∷ amounts) same = ap suc (length-placed places amounts (omega arith))

-- the amount in a place
pub placed-in : (places amounts : List ℕ) (at : ℕ) (d : PlacedPart) → length places ≡ length amounts → at < length places → slice_index_or (placed places amounts) at d ≡ record { place = slice_index places at; amount = slice_index amounts at }
placed-in [] amounts at d same below = absurd (omega arith)
placed-in (place ∷ places) [] at d same below = absurd (omega arith)
placed-in (place ∷ places) (amount ∷ amounts) zero d same below = refl
placed-in (place ∷ places) (amount ∷ amounts) (suc at) d same below = placed-in places amounts at d (omega arith) (omega arith)

-- amounts in places side by side
from-amounts : (start : ℕ) (amounts : List ℕ) → amounts_of (parts_from start amounts) ≡ amounts
from-amounts start [] = refl
from-amounts start (amount ∷ amounts) = ap (λ rest. amount ∷ rest) (from-amounts (start + 1) amounts)

from-places : (start : ℕ) (amounts : List ℕ) → map (λ part. part.place) (parts_from start amounts) ≡ range_with_len start (length amounts)
from-places start [] = refl
from-places start (amount ∷ amounts) = ap (λ rest. start ∷ rest) (from-places (start + 1) amounts)

-- the places and the amounts of units make both
pub placed-of : (parts : List PlacedPart) → placed (map (λ part. part.place) parts) (amounts_of parts) ≡ parts
placed-of [] = refl
placed-of (part ∷ parts) = ap (λ rest. part ∷ rest) (placed-of parts)

length-range : (start n : ℕ) → length (range_with_len start n) ≡ n
length-range start zero = refl
length-range start (suc n) = ap suc (length-range (start + 1) n)

-- those of lanes at one sidx
module _ (width : ℕ) (parts : PlacedLanes) (are : ArePlaced width parts) (at : ℕ) (below : at < length parts.places.items) (k : ℕ) where
  same-count : length parts.places.items ≡ length (column k parts.lanes)
  same-count = are.count_is ∙ sym (length-map parts.lanes (λ (one : List ℕ). slice_index one k))

  pub placed-inside : at < length (placed_at k parts)
  placed-inside = omega (arith, below, length-placed parts.places.items (column k parts.lanes) same-count)

  pub placed-here : (d : PlacedPart) (lane : List ℕ) → lane ≡ slice_index_or parts.lanes at lane → slice_index_or (placed_at k parts) at d ≡ record { place = slice_index parts.places.items at; amount = slice_index lane k }
  placed-here d lane lane_is =
      placed-in parts.places.items (column k parts.lanes) at d same-count below
      ∙ ap (λ n. record { place = slice_index parts.places.items at; amount = n }) (column-at k at parts.lanes lane (omega (arith, below, are.count_is)) ∙ ap (λ (one : List ℕ). slice_index one k) (sym lane_is))

  -- an amount is not above the losses of the children of its unit
  pub backed-here : (nodes : List Node) (row : List ℕ) → AreBacked nodes row (placed_at k parts) → (lane : List ℕ) → lane ≡ slice_index_or parts.lanes at lane → slice_index lane k ≤ sum (child_losses row (node_at nodes (slice_index parts.places.items at)))
  backed-here nodes row backed lane lane_is =
      let none : PlacedPart = record { place = 0; amount = 0 } in
      subst (λ (part : PlacedPart). part.amount ≤ sum (child_losses row (node_at nodes part.place))) (placed-here none lane lane_is)
      (All-from_recursion (λ (part : PlacedPart). part.amount ≤ sum (child_losses row (node_at nodes part.place))) (placed_at k parts) backed at none placed-inside)

  -- one more unit has given
  pub gives-more : (nodes : List Node) (row : List ℕ) (lane : List ℕ) → lane ≡ slice_index_or parts.lanes at lane → (node : Node) → node ≡ node_at nodes (slice_index parts.places.items at) → amounts_of (flat_map (given_losses nodes row) (take at (placed_at k parts))) ++ share_out (slice_index lane k) (child_losses row node) ≡ amounts_of (flat_map (given_losses nodes row) (take (at + 1) (placed_at k parts)))
  gives-more nodes row lane lane_is node node_is =
      let none : PlacedPart = record { place = 0; amount = 0 } in
      let made = flat_map (given_losses nodes row) (take at (placed_at k parts)) in
      let shares = share_out (slice_index lane k) (child_losses row node) in
      ap (λ amounts. amounts_of made ++ amounts) (sym (from-amounts node.start shares))
      ∙ (sym (map-append (λ (part : PlacedPart). part.amount) made (parts_from node.start shares))
      ∙ ap amounts_of
      (flat_map-goes (given_losses nodes row) (placed_at k parts) at none made (made ++ parts_from node.start shares) placed-inside refl
      (ap (λ (one : Node). made ++ parts_from one.start (share_out (slice_index lane k) (child_losses row one))) node_is
      ∙ ap (λ part. made ++ given_losses nodes row part) (sym (placed-here none lane lane_is)))))

  -- to so many children more
  pub count-more : (nodes : List Node) (node : Node) → node ≡ node_at nodes (slice_index parts.places.items at) → length (flat_map (child_places nodes) (take at parts.places.items)) + node.width ≡ length (flat_map (child_places nodes) (take (at + 1) parts.places.items))
  count-more nodes node node_is =
      let place = slice_index parts.places.items at in
      let made = flat_map (child_places nodes) (take at parts.places.items) in
      ap (λ n. length made + n) (ap (λ (one : Node). one.width) node_is ∙ sym (length-range (node_at nodes place).start (node_at nodes place).width))
      ∙ (sym (length-append made (child_places nodes place))
      ∙ ap length (flat_map-goes (child_places nodes) parts.places.items at 0 made (made ++ child_places nodes place) below refl refl))

-- all of them
pub placed-all : (width : ℕ) (parts : PlacedLanes) → ArePlaced width parts → (n : ℕ) → length parts.places.items ≤ n → (k : ℕ) → take n (placed_at k parts) ≡ placed_at k parts
placed-all width parts are n enough k = take_all n (placed_at k parts) (omega (arith, enough, length-placed parts.places.items (column k parts.lanes) (are.count_is ∙ sym (length-map parts.lanes (λ (one : List ℕ). slice_index one k)))))

-- one more place
pub range-more : (start n : ℕ) → range_with_len start (n + 1) ≡ range_with_len start n ++ (start + n) ∷ []
range-more start n = let e : n + 1 ≡ suc n = omega arith in ap (range_with_len start) e ∙ last start n (start + n) refl
  where
    last : (a n j : ℕ) → a + n ≡ j → range_with_len a (suc n) ≡ range_with_len a n ++ j ∷ []
    last a zero j e = let same : a ≡ j = omega arith in ap (λ k. k ∷ []) same
    last a (suc n) j e = ap (λ l. a ∷ l) (last (a + 1) n j (omega arith))

-- what holds of amounts in places holds of the places
pub places-all : (P : ℕ → Type 0) (places amounts : List ℕ) → length places ≡ length amounts → AllByRecursion (λ (part : PlacedPart). P part.place) (placed places amounts) → All P places
places-all P places amounts same all = λ at d below. by places amounts same all at d below
  where
    by : (places amounts : List ℕ) → length places ≡ length amounts → AllByRecursion (λ (part : PlacedPart). P part.place) (placed places amounts) → (at d : ℕ) → at < length places → P (slice_index_or places at d)
    by [] amounts same all at d below = absurd (omega arith)
    by (place ∷ places) [] same all at d below = absurd (omega arith)
    by (place ∷ places) (amount ∷ amounts) same all zero d below = all.0
    by (place ∷ places) (amount ∷ amounts) same all (suc at) d below = by places amounts (omega arith) all.1 at d (omega arith)

-- places side by side are below where they end
range-below : (start width n : ℕ) → start + width ≤ n → AllByRecursion (λ place. place < n) (range_with_len start width)
range-below start zero n fits = tt
range-below start (suc width) n fits = (omega (arith, fits), range-below (start + 1) width n (omega (arith, fits)))

-- the places of what units give are those of their children
given-places : (nodes : List Node) (row : List ℕ) (places amounts : List ℕ) → length places ≡ length amounts → AllByRecursion (λ place. (node_at nodes place).start + (node_at nodes place).width ≤ length row) places → map (λ part. part.place) (flat_map (given_losses nodes row) (placed places amounts)) ≡ flat_map (child_places nodes) places
given-places nodes row [] amounts same fits = refl
given-places nodes row (place ∷ places) [] same fits = absurd (omega arith)
given-places nodes row (place ∷ places) (amount ∷ amounts) same fits =
    let node = node_at nodes place in
    let losses = child_losses row node in
    let first = fits.0 in
    let long : length (share_out amount losses) ≡ node.width = shares-length amount (sum losses) 0 losses ∙ length-take-le node.width (drop node.start row) (omega (arith, first, length-drop node.start row)) in
    let rest = flat_map (given_losses nodes row) (placed places amounts) in
    map-append (λ (part : PlacedPart). part.place) (parts_from node.start (share_out amount losses)) rest
    ∙ (ap (λ front. front ++ map (λ (part : PlacedPart). part.place) rest) (from-places node.start (share_out amount losses) ∙ ap (range_with_len node.start) long)
    ∙ ap (λ back. child_places nodes place ++ back) (given-places nodes row places amounts (omega arith) fits.1))

module _ (width : ℕ) (nodes : List Node) (below : List (List ℕ)) (parts : PlacedLanes) (can : CanGiveBy width nodes below parts) where
  -- children stand among the units below
  children-fit : AllByRecursion (λ place. (node_at nodes place).start + (node_at nodes place).width ≤ length below) parts.places.items
  children-fit = recursion_from_All (λ place. (node_at nodes place).start + (node_at nodes place).width ≤ length below) parts.places.items (λ at d inside. (can.can (slice_index_or parts.places.items at d) no_node (can.within at d inside)).within)

  -- so do their places
  pub children-within : All (λ place. place < length below) (flat_map (child_places nodes) parts.places.items)
  children-within =
      All-from_recursion (λ place. place < length below) (flat_map (child_places nodes) parts.places.items)
      (each_flat_map (λ place. (node_at nodes place).start + (node_at nodes place).width ≤ length below) (λ place. place < length below) (child_places nodes)
      (λ place fits. range-below (node_at nodes place).start (node_at nodes place).width (length below) fits) parts.places.items children-fit)

  -- what is given has these places
  pub places-given : (k : ℕ) → map (λ part. part.place) (flat_map (given_losses nodes (column k below)) (placed_at k parts)) ≡ flat_map (child_places nodes) parts.places.items
  places-given k =
      given-places nodes (column k below) parts.places.items (column k parts.lanes) (can.placed.count_is ∙ sym (length-map parts.lanes (λ (lane : List ℕ). slice_index lane k)))
      (subst (λ n. AllByRecursion (λ place. (node_at nodes place).start + (node_at nodes place).width ≤ n) parts.places.items) (sym (length-map below (λ (lane : List ℕ). slice_index lane k))) children-fit)

  -- lanes of its amounts in these places are what is given
  module _ (given : PlacedLanes) (places_are : given.places.items ≡ flat_map (child_places nodes) parts.places.items) (lanes_are : AreLanes width (length (flat_map (child_places nodes) parts.places.items)) (λ k. amounts_of (flat_map (given_losses nodes (column k below)) (placed_at k parts))) given.lanes) where
    pub given-placed : ArePlaced width given
    given-placed = record { count_is = ap length places_are ∙ sym lanes_are.count_is; wide = lanes_are.wide }

    pub given-are : (k : ℕ) → k < width → placed_at k given ≡ flat_map (given_losses nodes (column k below)) (placed_at k parts)
    given-are k less =
        let all = flat_map (given_losses nodes (column k below)) (placed_at k parts) in
        ap (λ places. placed places (column k given.lanes)) (places_are ∙ sym (places-given k))
        ∙ (ap (placed (map (λ (part : PlacedPart). part.place) all)) (lanes_are.each k less) ∙ placed-of all)

-- ---- shares by losses

-- nothing has no shares
zero-shares : (weights given : ℕ) (further : List ℕ) → shares_after 0 weights given further ≡ replicate (length further) 0
zero-shares weights given [] = refl
zero-shares weights given (w ∷ further) =
    let here : share_of 0 weights given w ≡ 0 = omega (arith, none (given + w), none given) in
    ap (λ n. n ∷ shares_after 0 weights (given + w) further) here ∙ ap (λ rest. 0 ∷ rest) (zero-shares weights (given + w) further)
  where
    none : (upto : ℕ) → 0 * upto / weights ≡ 0
    none upto = let e : 0 * upto ≡ 0 = omega arith in ap (λ n. n / weights) e ∙ zero-div weights

-- an amount that is not above the losses that children carry is shared out by these
pub backed-shares : (amount : ℕ) (children : List Carry) → amount ≤ sum (losses_of children) → share_out amount (losses_of children) ≡ share_out amount (weights children)
backed-shares amount children few = by (nat_eq (sum_by (λ carry. carry.loss) children) 0) refl
  where
    length-each : {X Y : Type 0} (f : X → Y) (xs : List X) → length (map f xs) ≡ length xs
    length-each f [] = refl
    length-each f (x ∷ xs) = ap suc (length-each f xs)

    by : (b : Bool) → nat_eq (sum_by (λ carry. carry.loss) children) 0 ≡ b → share_out amount (losses_of children) ≡ share_out amount (map (λ carry. cond b (total carry) carry.loss) children)
    by false some = refl
    by true none =
        let nothing : amount ≡ 0 = omega (arith, few, sum-map (λ (carry : Carry). carry.loss) children, eqb-true (sum_by (λ carry. carry.loss) children) 0 none) in
        rw nothing (zero-shares (sum (losses_of children)) 0 (losses_of children)
        ∙ (ap (λ n. replicate n 0) (length-each (λ (carry : Carry). carry.loss) children ∙ sym (length-each total children))
        ∙ sym (zero-shares (sum (map total children)) 0 (map total children))))

-- a unit gives by losses what it gives
pub backed-down : (nodes : List Node) (row : List Carry) (parts : List PlacedPart) → AreBacked nodes (losses_of row) parts → flat_map (given_losses nodes (losses_of row)) parts ≡ level_down false nodes row parts
backed-down nodes row [] backed = refl
backed-down nodes row (part ∷ parts) backed =
    let node = node_at nodes part.place in
    let children = children_of row node in
    let losses = child_losses-of row node in
    let here : share_out part.amount (child_losses (losses_of row) node) ≡ amounts_for false part.amount children =
    ap (share_out part.amount) losses ∙ backed-shares part.amount children (subst (λ ls. part.amount ≤ sum ls) losses backed.0) in
    ap (λ amounts. parts_from node.start amounts ++ flat_map (given_losses nodes (losses_of row)) parts) here
    ∙ ap (λ rest. given_by false nodes row part ++ rest) (backed-down nodes row parts backed.1)

-- ---- shares are backed

-- the share of a child is not above its loss
shares-backed : (row : List ℕ) (amount weights given start : ℕ) (further : List ℕ) → amount ≤ weights → ((j : ℕ) → j < length further → slice_index further j ≡ slice_index row (start + j)) → AllByRecursion (λ part. part.amount ≤ slice_index row part.place) (parts_from start (shares_after amount weights given further))
shares-backed row amount weights given start [] few same = tt
shares-backed row amount weights given start (w ∷ further) few same =
    let first : w ≡ slice_index row start = same 0 (omega arith) ∙ (let e : start + 0 ≡ start = omega arith in ap (slice_index row) e) in (
      omega (arith, share_of-le amount weights given w few, first),
      shares-backed row amount weights (given + w) (start + 1) further few (λ j below. same (suc j) (omega arith) ∙ (let e : start + suc j ≡ start + 1 + j = omega arith in ap (slice_index row) e)),
    )

children-backed : (row : List ℕ) (node : Node) (amount : ℕ) → amount ≤ sum (child_losses row node) → AllByRecursion (λ part. part.amount ≤ slice_index row part.place) (parts_from node.start (share_out amount (child_losses row node)))
children-backed row node amount few =
    shares-backed row amount (sum (child_losses row node)) 0 node.start (child_losses row node) few
    (λ j below. get_or-take node.width (drop node.start row) j 0 (inside j node.width (drop node.start row) below) ∙ get_or-drop node.start row j 0)
  where
    inside : (j n : ℕ) (xs : List ℕ) → j < length (take n xs) → j < n
    inside j zero xs below = absurd (omega arith)
    inside j (suc n) [] below = absurd (omega arith)
    inside zero (suc n) (x ∷ xs) below = omega arith
    inside (suc j) (suc n) (x ∷ xs) below = omega (arith, inside j n xs (omega arith))

-- what is given is not above what the children carry
pub given-backed : (nodes : List Node) (row : List ℕ) (parts : List PlacedPart) → AreBacked nodes row parts → AllByRecursion (λ part. part.amount ≤ slice_index row part.place) (flat_map (given_losses nodes row) parts)
given-backed nodes row parts backed =
    each_flat_map (λ part. part.amount ≤ sum (child_losses row (node_at nodes part.place))) (λ part. part.amount ≤ slice_index row part.place) (given_losses nodes row)
    (λ part few. children-backed row (node_at nodes part.place) part.amount few) parts backed

module _ (parts : Parts) (has : HasProgramme parts) (plain : HasPlainUnits parts) (losses : List ℕ) where
  -- what a unit carries is not above what its children do
  unit-le : (level : ℕ) → level < length parts.levels → (place : ℕ) → slice_index (losses_of (row_of parts losses (suc level))) place ≤ sum (child_losses (losses_of (row_of parts losses level)) (node_at (slice_index_or parts.levels level []) place))
  unit-le level below place = by (cases_lt place (length nodes))
    where
      nodes : List Node
      nodes = slice_index_or parts.levels level []

      node : Node
      node = node_at (slice_index_or parts.levels level []) place

      before : List Carry
      before = row_of parts losses level

      past : {X : Type 0} (f : X → ℕ) (xs : List X) (at : ℕ) → length xs ≤ at → slice_index (map f xs) at ≡ 0
      past f [] at most = refl
      past f (x ∷ xs) zero most = absurd (omega arith)
      past f (x ∷ xs) (suc at) most = past f xs at (omega arith)

      at-of : {X : Type 0} (f : X → Carry) (xs : List X) (at : ℕ) (d : X) → at < length xs → slice_index (losses_of (map f xs)) at ≡ (f (slice_index_or xs at d)).loss
      at-of f [] at d less = absurd (omega arith)
      at-of f (x ∷ xs) zero d less = refl
      at-of f (x ∷ xs) (suc at) d less = at-of f xs at d (omega arith)

      long : {X : Type 0} (f : X → Carry) (xs : List X) → length (map f xs) ≡ length xs
      long f [] = refl
      long f (x ∷ xs) = ap suc (long f xs)

      by : (place < length (slice_index_or parts.levels level [])) ⊎ (length (slice_index_or parts.levels level []) ≤ place) → slice_index (losses_of (map (node_carry (row_of parts losses level)) (slice_index_or parts.levels level []))) place ≤ sum (child_losses (losses_of (row_of parts losses level)) (node_at (slice_index_or parts.levels level []) place))
      by (inr most) = omega (arith, past (λ (carry : Carry). carry.loss) (map (node_carry before) nodes) place (omega (arith, most, long (node_carry before) nodes)))
      by (inl less) =
          let right = has.is.nodes_are level (subst (λ n. level < n) has.is.levels_are below) place no_node less in
          let profile : IsProfile node.profile = subst IsProfile (sym right.profile_is) (has.is.is.profiles (suc level) node.unit) in
          let all = sum (child_losses (losses_of before) node) in
          omega (arith, at-of (node_carry before) nodes place no_node less, node_carry-loss before node (plain level below place no_node less), loss_after-le node.profile (shares_of node.profile profile) node.tiv all)

  -- so what is given to a level is backed there
  pub next-backed : (level : ℕ) → suc level < length parts.levels → (amounts : List PlacedPart) → AllByRecursion (λ part. part.amount ≤ slice_index (losses_of (row_of parts losses (suc level))) part.place) amounts → AreBacked (slice_index_or parts.levels level []) (losses_of (row_of parts losses level)) amounts
  next-backed level below [] all = tt
  next-backed level below (part ∷ amounts) all = (omega (arith, all.0, unit-le level (omega arith) part.place), next-backed level below amounts all.1)
