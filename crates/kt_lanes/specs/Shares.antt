-- Totals that are shared out over lanes, child by child.
-- The rule: docs/CALCULATION.md, "Share-out".
use Rattle.std.specs.Prelude.{◌≡◌, ℕ, zero, suc, ◌+◌, ◌-◌, ◌%◌, ◌<◌, ◌≤◌, ◌^◌, List, length, slice_index, take, ◌++◌}
use Rattle.std.specs.List.{sum}
use Rattle.kt_money.specs.Sharing.{share_to, share_out}
use Rattle.kt_lanes.specs.Lanes.{column, AreLanes, AreWide, IsLane}
use Rattle.kt_lanes.specs.declared.shares.Room.{Room}

-- lanes of totals, of their weights in all, and of the first weights
pub record CanPart (totals weights upto : List ℕ) : Type 0 where
  pub weights_wide : length weights ≡ length totals
  pub upto_wide : length upto ≡ length totals
  pub most : (k : ℕ) → k < length totals → slice_index totals k ≤ slice_index weights k
  pub few : (k : ℕ) → k < length totals → slice_index weights k ≤ 10 ^ 16
  pub within : (k : ℕ) → k < length totals → slice_index upto k ≤ slice_index weights k

-- weights as they are, and 1 for none
abbrev pub weight_or_one : ℕ → ℕ
weight_or_one zero = 1
weight_or_one (suc n) = suc n

-- a number of 64 bits without another: where it would be negative, it wraps
abbrev pub less_wrapped : ℕ → ℕ → ℕ
less_wrapped n less = (n + (2 ^ 64 - less)) % 2 ^ 64

-- lanes of totals, of their weights in all, of the first weights, of one more, and of what the first were paid
pub record CanPay (totals weights upto lane paid : List ℕ) : Type 0 where
  pub weights_wide : length weights ≡ length totals
  pub upto_wide : length upto ≡ length totals
  pub lane_wide : length lane ≡ length totals
  pub paid_wide : length paid ≡ length totals
  pub some : (k : ℕ) → k < length totals → 0 < slice_index weights k
  pub most : (k : ℕ) → k < length totals → slice_index totals k ≤ slice_index weights k
  pub few : (k : ℕ) → k < length totals → slice_index weights k ≤ 10 ^ 16
  pub within : (k : ℕ) → k < length totals → slice_index upto k + slice_index lane k ≤ slice_index weights k
  pub enough : (k : ℕ) → k < length totals → slice_index paid k ≤ share_to (slice_index totals k) (slice_index weights k) (slice_index upto k + slice_index lane k)

-- the one more is counted among the first, these are paid their part, and it has what was not paid of it
pub record ArePaid (totals weights upto lane paid upto_now paid_now share : List ℕ) : Type 0 where
  pub upto_is : IsLane (length totals) (λ k. slice_index upto k + slice_index lane k) upto_now
  pub paid_is : IsLane (length totals) (λ k. share_to (slice_index totals k) (slice_index weights k) (slice_index upto k + slice_index lane k)) paid_now
  pub share_is : IsLane (length totals) (λ k. share_to (slice_index totals k) (slice_index weights k) (slice_index upto k + slice_index lane k) - slice_index paid k) share

-- totals can be shared out over the lanes of children
pub record CanShare (totals : List ℕ) (children : List (List ℕ)) : Type 0 where
  pub wide : AreWide (length totals) children
  pub few : (k : ℕ) → k < length totals → sum (column k children) ≤ 10 ^ 16
  pub backed : (k : ℕ) → k < length totals → slice_index totals k ≤ sum (column k children)

-- totals can be shared out over the lanes of two children
pub record CanSplit (totals first second : List ℕ) : Type 0 where
  pub first_wide : length first ≡ length totals
  pub second_wide : length second ≡ length totals
  pub few : (k : ℕ) → k < length totals → slice_index first k + slice_index second k ≤ 10 ^ 16
  pub backed : (k : ℕ) → k < length totals → slice_index totals k ≤ slice_index first k + slice_index second k

-- of totals the first of two children has its part, and the second what is left
pub record AreSplit (totals first second parts rests : List ℕ) : Type 0 where
  pub parts_are : IsLane (length totals) (λ k. share_to (slice_index totals k) (slice_index first k + slice_index second k) (slice_index first k)) parts
  pub rests_are : IsLane (length totals) (λ k. slice_index totals k - share_to (slice_index totals k) (slice_index first k + slice_index second k) (slice_index first k)) rests

-- how far totals are shared out over the lanes of children: what the first of them were paid, and their shares
pub record AreSharing (totals : List ℕ) (children : List (List ℕ)) (at : ℕ) (paid : List ℕ) (shares : List (List ℕ)) : Type 0 where
  pub paid_is : IsLane (length totals) (λ k. share_to (slice_index totals k) (sum (column k children)) (sum (column k (take at children)))) paid
  pub shares_are : AreLanes (length totals) at (λ k. take at (share_out (slice_index totals k) (column k children))) shares

-- the same, where shares stand behind others
pub record AreSharingBehind (totals : List ℕ) (children : List (List ℕ)) (at : ℕ) (paid : List ℕ) (before now : List (List ℕ)) : Type 0 where
  pub shares : List (List ℕ)
  pub sharing : AreSharing totals children at paid shares
  pub now_is : now ≡ before ++ shares
  pub wide : AreWide (length totals) now

-- room for lanes of some width
pub record HasRoom (width : ℕ) (room : Room) : Type 0 where
  pub weights : length room.weights.items ≡ width
  pub ratios : length room.ratios.items ≡ width
  pub upto : length room.upto.items ≡ width
  pub paid : length room.paid.items ≡ width
  pub due : length room.due.items ≡ width
