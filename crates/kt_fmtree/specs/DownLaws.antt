-- Laws of parts that are given down, level by level.
-- The rule: docs/FINANCIAL_MODULE.md, "Allocation".
use Rattle.std.proofs.Common.{◌≡◌, ℕ, zero, suc, ◌+◌, ◌*◌, ◌<◌, ◌≤◌, ◌^◌, Bool, true, false, List, [], ◌∷◌, ◌++◌, length, map, take, drop, get_or, refl, sym, ap, subst, ◌∙◌, arith, drop-cons, add-one, append_assoc, append-nil}
use Rattle.std.specs.List.{All, AllByRecursion, flat_map, sum, sum_by}
use Rattle.std.proofs.Math.Nat.{div-zero}
use Rattle.std.proofs.lemmas.Bool.{true≢false}
use Rattle.std.proofs.lemmas.List.Sums.{sum_by-cons, sum-map, get_or-le-sum_by}
use Rattle.kt_money.specs.Sharing.{share_of, shares_after, share_out}
use Rattle.kt_money.specs.SharingLaws.{share_out-adds}
use Rattle.kt_rules.specs.Amounts.{total}
use Rattle.kt_rules.specs.Profiles.{IsProfile}
use Rattle.kt_rules.specs.declared.carry.Carry.{Carry}
use Rattle.kt_rec.specs.Sums.{sum_by-agree, sum_by-below, sum_by-flat_map, each_flat_map, sum_by-map}
use Rattle.kt_fmtree.specs.Tree.{carry_of, ground_up}
use Rattle.kt_fmtree.specs.TreeLaws.{each, carry_of-total, ground_up-few}
use Rattle.kt_fmtree.specs.Parts.{Parts, IsNode, units_at}
use Rattle.kt_fmtree.specs.Carried.{Carried, CanCarry, IsCarriedBy}
use Rattle.kt_fmtree.specs.CarriedLaws.{children-of}
use Rattle.kt_fmtree.specs.declared.node.Node.{Node}
use Rattle.kt_fmtree.specs.Placed.{weights, amounts_for, parts_from, children_of, no_node, node_at, given_by, level_down, levels_down, CanShare}
use Rattle.kt_fmtree.specs.declared.part.PlacedPart.{PlacedPart}
use Rattle.std.proofs.lemmas.List.{length-map}

-- ---- lists

length-take_le : {X : Type 0} (n : ℕ) (xs : List X) → length (take n xs) ≤ n
length-take_le zero xs = omega arith
length-take_le (suc n) [] = omega arith
length-take_le (suc n) (x ∷ xs) = omega (arith, length-take_le n xs)

-- ---- one level, part by part

-- how far a level has been given down
abbrev pub AreGiven : Bool → List Node → List Carry → List PlacedPart → ℕ → List PlacedPart → Type 0
AreGiven whole nodes below parts at given = given ++ flat_map (given_by whole nodes below) (drop at parts) ≡ level_down whole nodes below parts

pub given-goes : (whole : Bool) (nodes : List Node) (below : List Carry) (parts : List PlacedPart) (at : ℕ) (given more : List PlacedPart) (d : PlacedPart) → at < length parts → AreGiven whole nodes below parts at given → more ≡ given ++ given_by whole nodes below (get_or parts at d) → AreGiven whole nodes below parts (at + 1) more
given-goes whole nodes below parts at given more d inside so_far more_is =
    let next : drop at parts ≡ get_or parts at d ∷ drop (at + 1) parts = rw (add-one, drop-cons parts at d) refl in
    ap (λ ps. ps ++ flat_map (given_by whole nodes below) (drop (at + 1) parts)) more_is
    ∙ (append_assoc given _ _
    ∙ (ap (λ ps. given ++ flat_map (given_by whole nodes below) ps) (sym next) ∙ so_far))

pub given-ends : (whole : Bool) (nodes : List Node) (below : List Carry) (parts given : List PlacedPart) → AreGiven whole nodes below parts (length parts) given → given ≡ level_down whole nodes below parts
given-ends whole nodes below parts given so_far = sym (append-nil given) ∙ (ap (λ ps. given ++ flat_map (given_by whole nodes below) ps) (sym (none parts)) ∙ so_far)
  where
    none : (parts : List PlacedPart) → drop (length parts) parts ≡ []
    none [] = refl
    none (part ∷ parts) = none parts

-- an amount is not above all of them
pub amount-le : (parts : List PlacedPart) (at : ℕ) (d : PlacedPart) → at < length parts → (get_or parts at d).amount ≤ sum_by (λ part. part.amount) parts
amount-le parts at d below = get_or-le-sum_by (λ part. part.amount) parts at d below

-- ---- places

pub shares-length : (all weights given : ℕ) (further : List ℕ) → length (shares_after all weights given further) ≡ length further
shares-length all weights given [] = refl
shares-length all weights given (w ∷ further) = ap suc (shares-length all weights (given + w) further)

-- children have an amount each
pub amounts-length : (whole : Bool) (amount : ℕ) (children : List Carry) → length (amounts_for whole amount children) ≡ length children
amounts-length true amount children = length-map children total
amounts-length false amount children = shares-length amount (sum (weights children)) 0 (weights children) ∙ length-map children _

places-from : (start n : ℕ) (amounts : List ℕ) → start + length amounts ≤ n → AllByRecursion (λ part. part.place < n) (parts_from start amounts)
places-from start n [] fits = tt
places-from start n (amount ∷ amounts) fits = (omega arith, places-from (start + 1) n amounts (omega arith))

-- the places of what is given are places of the level below
pub level-places : (whole : Bool) (nodes : List Node) (below : List Carry) → All (CanCarry below) nodes → (parts : List PlacedPart) → AllByRecursion (λ part. part.place < length nodes) parts → AllByRecursion (λ part. part.place < length below) (level_down whole nodes below parts)
level-places whole nodes below can parts places = each_flat_map (λ part. part.place < length nodes) (λ part. part.place < length below) (given_by whole nodes below) one parts places
  where
    one : (part : PlacedPart) → part.place < length nodes → AllByRecursion (λ given. given.place < length below) (given_by whole nodes below part)
    one part inside =
        let node = node_at nodes part.place in
        let has : CanCarry below node = can part.place no_node inside in
        let fits = has.within in
        places-from node.start (length below) (amounts_for whole part.amount (children_of below node)) (omega (arith, amounts-length whole part.amount (children_of below node), length-take_le node.width (drop node.start below), fits))

-- ---- sums

pub parts-sum : (start : ℕ) (amounts : List ℕ) → sum_by (λ part. part.amount) (parts_from start amounts) ≡ sum amounts
parts-sum start [] = refl
parts-sum start (amount ∷ amounts) = omega (arith, sum_by-cons (λ (part : PlacedPart). part.amount) (record { place = start; amount = amount }) (parts_from (start + 1) amounts), sum_by-cons (λ (n : ℕ). n) amount amounts, parts-sum (start + 1) amounts)

-- shares add to no more than the amount
pub shares-le : (amount : ℕ) (weights : List ℕ) → sum (share_out amount weights) ≤ amount
shares-le amount weights = by (sum weights) refl
  where
    none : (given : ℕ) (further : List ℕ) → sum (shares_after amount 0 given further) ≡ 0
    none given [] = refl
    none given (w ∷ further) = omega (arith, sum_by-cons (λ (n : ℕ). n) (share_of amount 0 given w) (shares_after amount 0 (given + w) further), none (given + w) further, div-zero (amount * (given + w)), div-zero (amount * given))

    by : (n : ℕ) → sum weights ≡ n → sum (share_out amount weights) ≤ amount
    by zero is = let e = ap (λ m. sum (shares_after amount m 0 weights)) is in omega (arith, e, none 0 weights)
    by (suc n) is = omega (arith, share_out-adds amount weights (λ some. omega arith))

-- shares that are given down add to no more than before
pub level-few : (nodes : List Node) (below : List Carry) (parts : List PlacedPart) → sum_by (λ part. part.amount) (level_down false nodes below parts) ≤ sum_by (λ part. part.amount) parts
level-few nodes below parts =
    omega (arith, sum_by-flat_map (λ part. part.amount) (given_by false nodes below) parts, sum_by-below (λ part. sum_by (λ given. given.amount) (given_by false nodes below part)) (λ part. part.amount) parts one)
  where
    one : (part : PlacedPart) → sum_by (λ given. given.amount) (given_by false nodes below part) ≤ part.amount
    one part =
        let children = children_of below (node_at nodes part.place) in
        omega (arith, parts-sum (node_at nodes part.place).start (share_out part.amount (weights children)), shares-le part.amount (weights children))

-- ---- what is carried

-- what a level carries is not too much for the next one
pub row-can : (programme : Parts) (carried : Carried) → IsCarriedBy programme carried → (level : ℕ) → level < length programme.levels → All (CanCarry (get_or carried.rows level [])) (get_or programme.levels level [])
row-can programme carried of level below = λ k d inside. one (get_or (get_or programme.levels level []) k d) (of.is.nodes_are level under k d inside)
  where
    under : level < of.tree.top_level
    under = subst (λ n. level < n) of.is.levels_are below

    sums : (node : Node) → IsNode of.tree (suc level) (units_at programme level) node → sum_by total (take node.width (drop node.start (map (carry_of of.tree of.loss level) (units_at programme level)))) ≡ ground_up of.tree of.loss (suc level) node.unit
    sums node right =
        ap (sum_by total) (children-of of.tree (suc level) (units_at programme level) node right (carry_of of.tree of.loss level))
        ∙ (sum_by-map total (carry_of of.tree of.loss level) (of.tree.children (suc level) node.unit)
        ∙ sum_by-agree (λ unit. total (carry_of of.tree of.loss level unit)) (ground_up of.tree of.loss level) (of.tree.children (suc level) node.unit) (each (carry_of-total of.tree of.is.is of.loss level) (of.tree.children (suc level) node.unit)))

    one : (node : Node) → IsNode of.tree (suc level) (units_at programme level) node → CanCarry (get_or carried.rows level []) node
    one node right =
        let few = of.few in
        subst (λ row. CanCarry row node) (sym (of.carried_are.rows_are level under))
        (record {
          within = subst (λ n. node.start + node.width ≤ n) (sym (length-map (units_at programme level) (carry_of of.tree of.loss level))) right.within;
          few = omega (arith, sums node right, ground_up-few of.tree of.is.is of.loss level node.unit, sum-map of.loss of.tree.ids, few);
          profile = subst IsProfile (sym right.profile_is) (of.is.is.profiles (suc level) node.unit);
          value = omega (arith, right.tiv_is, of.is.is.values (suc level) node.unit);
        })

-- as many amounts are carried as there are units
pub row-length : (programme : Parts) (carried : Carried) → IsCarriedBy programme carried → (level : ℕ) → level < length programme.levels → length (get_or carried.rows level []) ≡ length (units_at programme level)
row-length programme carried of level below = ap length (of.carried_are.rows_are level (subst (λ n. level < n) of.is.levels_are below)) ∙ length-map (units_at programme level) _

-- ---- the next level

pub nodes-places : (programme : Parts) (whole : Bool) (level next : ℕ) → level ≡ suc next → (parts : List PlacedPart) → CanShare programme whole level parts → AllByRecursion (λ part. part.place < length (get_or programme.levels next [])) parts
nodes-places programme whole level next level_is parts can =
    subst (λ n. AllByRecursion (λ part. part.place < n) parts) (ap (λ l. length (units_at programme l)) level_is ∙ length-map (get_or programme.levels next []) (λ (node : Node). node.unit)) can.places

pub can-next : (programme : Parts) (carried : Carried) → IsCarriedBy programme carried → (whole : Bool) (level next : ℕ) → level ≡ suc next → (parts given : List PlacedPart) → CanShare programme whole level parts → given ≡ level_down whole (get_or programme.levels next []) (get_or carried.rows next []) parts → CanShare programme whole next given
can-next programme carried of whole level next level_is parts given can given_is =
    let within = can.within in
    let under : next < length programme.levels = omega arith in
    subst (CanShare programme whole next) (sym given_is) (record {
      within = omega arith;
      places = subst (λ n. AllByRecursion (λ part. part.place < n) (level_down whole (get_or programme.levels next []) (get_or carried.rows next []) parts)) (row-length programme carried of next under)
          (level-places whole (get_or programme.levels next []) (get_or carried.rows next []) (row-can programme carried of next under) parts (nodes-places programme whole level next level_is parts can));
      few = by whole can.few;
    })
  where
    by : (b : Bool) → (b ≡ false → sum_by (λ part. part.amount) parts ≤ 10 ^ 17) → b ≡ false → sum_by (λ part. part.amount) (level_down b (get_or programme.levels next []) (get_or carried.rows next []) parts) ≤ 10 ^ 17
    by true few is = absurd (true≢false is)
    by false few is = let most = few is in omega (arith, level-few (get_or programme.levels next []) (get_or carried.rows next []) parts)

pub levels-next : (whole : Bool) (levels : List (List Node)) (rows : List (List Carry)) (level next : ℕ) → level ≡ suc next → (parts given last : List PlacedPart) → given ≡ level_down whole (get_or levels next []) (get_or rows next []) parts → last ≡ levels_down whole levels rows next given → last ≡ levels_down whole levels rows level parts
levels-next whole levels rows level next level_is parts given last given_is last_is =
    last_is ∙ (ap (levels_down whole levels rows next) given_is ∙ ap (λ l. levels_down whole levels rows l parts) (sym level_is))
