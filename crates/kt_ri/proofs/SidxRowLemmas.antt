-- The rows of the sidx of pairs, which rise, and the losses of rows.
use Rattle.std.proofs.Common.{◌≡◌, ◌⊎◌, inl, inr, ℕ, zero, suc, ◌+◌, ◌-◌, ◌<◌, ◌≤◌, Bool, true, false, cond, ℤ, pos, negsuc, ◌≤ℤ◌, ◌<ℤ◌, List, [], ◌∷◌, length, refl, sym, ap, subst, ◌∙◌, arith}
use Rattle.std.specs.List.{AllByRecursion}
use Rattle.std.specs.Ordering.{int_eq}
use Rattle.std.proofs.lemmas.Bool.Decides.{Decides-int_eq}
use Rattle.std.proofs.lemmas.Int.{ints}
use Rattle.std.proofs.lemmas.List.Sums.{sum_by-cons}
use Rattle.kt_stream.specs.declared.entry.Pair.{Pair}
use Rattle.kt_stream.specs.Pairs.{ArePairs, BeginsAbove, IsPair, IsSidx, RisingSidx}
use Rattle.kt_runs.specs.RunLosses.{loss_of}
use Rattle.kt_runs.specs.Sidx.{sidx_at}
use Rattle.kt_runs.specs.SidxLaws.{one_place}
use Rattle.kt_runs.specs.RowLaws.{row-back, sample-place}
use Rattle.kt_runs.specs.LaneRows.{row_place}

-- the row of a sidx
abbrev pub row_of : ℤ → ℕ
row_of (pos n) = n
row_of (negsuc n) = 0

-- a sidx has a row
pub record HasRow (samples : ℕ) (sidx : ℤ) : Type 0 where
  pub low : negsuc 1 <ℤ sidx
  pub within : row_of sidx ≤ samples
  pub back : sidx ≡ sidx_at (row_place (row_of sidx))

-- a sidx that is not 0 is that of a sample
sampled : (n : ℕ) → (pos n ≡ pos 0 → ⊥) → 1 ≤ n
sampled zero other = absurd (other refl)
sampled (suc n) other = omega arith

-- each but -2 has one
pub has-row : (samples : ℕ) (sidx : ℤ) → IsSidx samples sidx → (sidx ≡ negsuc 1) ⊎ HasRow samples sidx
has-row samples (pos n) is =
    let high = is.highest in
    inr (record { low = omega (arith, ints); within = omega (arith, ints, high); back = sym (sample-place n (sampled n is.other)) })
has-row samples (negsuc n) is = by n is.lowest
  where
    by : (n : ℕ) → negsuc 1 ≤ℤ negsuc n → (negsuc n ≡ negsuc 1) ⊎ HasRow samples (negsuc n)
    by zero lowest = inr (record { low = omega (arith, ints); within = omega arith; back = refl })
    by (suc n) lowest = inl (let one : suc n ≡ 1 = omega (arith, ints, lowest) in ap negsuc one)

-- and so has each above another
next-row : (samples : ℕ) (one later : ℤ) → negsuc 1 ≤ℤ one → one <ℤ later → IsSidx samples later → HasRow samples later
next-row samples one later lowest above is = by (has-row samples later is)
  where
    never : (one : ℤ) → negsuc 1 ≤ℤ one → one <ℤ negsuc 1 → ⊥
    never (pos n) lowest above = omega (arith, ints, above)
    never (negsuc n) lowest above = omega (arith, ints, lowest, above)

    by : (later ≡ negsuc 1) ⊎ HasRow samples later → HasRow samples later
    by (inl same) = absurd (never one lowest (subst (λ (sidx : ℤ). one <ℤ sidx) same above))
    by (inr has) = has

-- which is a later one
later-row : (samples : ℕ) (one later : ℤ) → negsuc 1 <ℤ one → one <ℤ later → IsSidx samples later → row_of one + 1 ≤ row_of later
later-row samples (pos n) (pos m) low above is = omega (arith, ints, above)
later-row samples (pos n) (negsuc m) low above is = absurd (omega (arith, ints, above))
later-row samples (negsuc n) (pos m) low above is = sampled m is.other
later-row samples (negsuc n) (negsuc m) low above is = absurd (omega (arith, ints, low, above))

-- a pair has a row, from one on
pub record IsAt (samples least : ℕ) (pair : Pair) : Type 0 where
  pub from : least ≤ row_of pair.sidx
  pub has : HasRow samples pair.sidx

-- pairs have rows that rise, from one on
abbrev pub RowsFrom : ℕ → ℕ → List Pair → Type 0
RowsFrom samples least [] = Unit {0}
RowsFrom samples least (pair ∷ pairs) = IsAt samples least pair × RowsFrom samples (row_of pair.sidx + 1) pairs

-- the first of them has
abbrev pub BeginsAt : ℕ → ℕ → List Pair → Type 0
BeginsAt samples least [] = Unit {0}
BeginsAt samples least (pair ∷ pairs) = IsAt samples least pair

-- and so has one behind another
begins-next : (samples least : ℕ) (one : ℤ) → negsuc 1 ≤ℤ one → ((later : ℤ) → one <ℤ later → IsSidx samples later → least ≤ row_of later) → (pairs : List Pair) → AllByRecursion (IsPair samples) pairs → BeginsAbove one pairs → BeginsAt samples least pairs
begins-next samples least one lowest from [] each above = tt
begins-next samples least one lowest from (pair ∷ pairs) each above = record { from = from pair.sidx above each.0.sidx; has = next-row samples one pair.sidx lowest above each.0.sidx }

-- the sidx of pairs rise, and so do their rows
pub rows-from : (samples least : ℕ) (pairs : List Pair) → AllByRecursion (IsPair samples) pairs → RisingSidx pairs → BeginsAt samples least pairs → RowsFrom samples least pairs
rows-from samples least [] each rises begins = tt
rows-from samples least (pair ∷ pairs) each rises begins = (
  begins,
  rows-from samples (row_of pair.sidx + 1) pairs each.1 rises.1
      (begins-next samples (row_of pair.sidx + 1) pair.sidx each.0.sidx.lowest (λ later above is. later-row samples pair.sidx later begins.has.low above is) pairs each.1 rises.0),
)

-- there are no more pairs than rows
rows-few : (samples least : ℕ) (pairs : List Pair) → RowsFrom samples least pairs → least ≤ samples + 1 → length pairs + least ≤ samples + 1
rows-few samples least [] rows most = omega (arith, most)
rows-few samples least (pair ∷ pairs) rows most = omega (arith, rows.0.from, rows-few samples (row_of pair.sidx + 1) pairs rows.1 (omega (arith, rows.0.has.within)))

-- ---- the losses of rows

-- a sidx is not that of another place
other-place : (sidx : ℤ) (one other : ℕ) → sidx ≡ sidx_at one → (one ≡ other → ⊥) → int_eq sidx (sidx_at other) ≡ false
other-place sidx one other is differ = by (int_eq sidx (sidx_at other)) refl
  where
    by : (b : Bool) → int_eq sidx (sidx_at other) ≡ b → b ≡ false
    by true same = absurd (differ (one_place one other (sym is ∙ (Decides-int_eq sidx (sidx_at other)).0 same)))
    by false same = refl

-- or of another row
pub other-row : (samples : ℕ) (sidx : ℤ) → HasRow samples sidx → (row : ℕ) → (row_of sidx ≡ row → ⊥) → int_eq sidx (sidx_at (row_place row)) ≡ false
other-row samples sidx has row differ =
    other-place sidx (row_place (row_of sidx)) (row_place row) has.back (λ same. differ (row-back (row_of sidx) ∙ (ap (λ n. n - 2147483648) same ∙ sym (row-back row))))

-- what a row has of pairs with one in front
pub front-loss : (row : ℕ) (pair : Pair) (pairs : List Pair) → loss_of (sidx_at (row_place row)) (pair ∷ pairs) ≡ cond (int_eq pair.sidx (sidx_at (row_place row))) pair.loss 0 + loss_of (sidx_at (row_place row)) pairs
front-loss row pair pairs = sum_by-cons (λ (pair : Pair). cond (int_eq pair.sidx (sidx_at (row_place row))) pair.loss 0) pair pairs

-- a row before those of pairs has no loss
pub no-loss : (samples least row : ℕ) (pairs : List Pair) → RowsFrom samples least pairs → row < least → loss_of (sidx_at (row_place row)) pairs ≡ 0
no-loss samples least row [] rows below = refl
no-loss samples least row (pair ∷ pairs) rows below =
    let from = rows.0.from in
    omega (
      arith,
      front-loss row pair pairs,
      ap (λ b. cond b pair.loss 0) (other-row samples pair.sidx rows.0.has row (λ same. omega (arith, same, below, from))),
      no-loss samples (row_of pair.sidx + 1) row pairs rows.1 (omega (arith, below, from)),
    )

-- sidx -2 has no row
pub no-row : (sidx : ℤ) → sidx ≡ negsuc 1 → (row : ℕ) → int_eq sidx (sidx_at (row_place row)) ≡ false
no-row sidx same row = other-place sidx 2147483646 (row_place row) same (by row)
  where
    by : (row : ℕ) → 2147483646 ≡ row_place row → ⊥
    by zero is = omega (arith, is)
    by (suc row) is = omega (arith, is, row-back (suc row))

-- ---- all pairs of a record

-- behind a pair all have rows
pub rest-rows : (samples : ℕ) (pair : Pair) (pairs : List Pair) → AllByRecursion (IsPair samples) (pair ∷ pairs) → RisingSidx (pair ∷ pairs) → RowsFrom samples 0 pairs
rest-rows samples pair pairs each rises = rows-from samples 0 pairs each.1 rises.1 (begins-next samples 0 pair.sidx each.0.sidx.lowest (λ later above is. omega arith) pairs each.1 rises.0)

-- a record has at most one pair more than there are rows
few-left : (samples : ℕ) (pairs : List Pair) → AllByRecursion (IsPair samples) pairs → RisingSidx pairs → length pairs ≤ samples + 2
few-left samples [] each rises = omega arith
few-left samples (pair ∷ pairs) each rises = by (has-row samples pair.sidx each.0.sidx)
  where
    by : (pair.sidx ≡ negsuc 1) ⊎ HasRow samples pair.sidx → length (pair ∷ pairs) ≤ samples + 2
    by (inl same) = omega (arith, rows-few samples 0 pairs (rest-rows samples pair pairs each rises) (omega arith))
    by (inr has) = omega (arith, rows-few samples 0 (pair ∷ pairs) (rows-from samples 0 (pair ∷ pairs) each rises (record { from = omega arith; has = has })) (omega arith))

pub pairs-few : (samples : ℕ) (pairs : List Pair) → ArePairs samples pairs → length pairs ≤ samples + 2
pairs-few samples pairs are = few-left samples pairs are.each are.rising
