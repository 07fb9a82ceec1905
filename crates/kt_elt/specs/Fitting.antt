-- A summary record of a stream fits the samples of the stream.
-- The rules: docs/STREAMS.md, "Records"; docs/OUTPUTS.md, "Event loss table".
use Rattle.std.specs.Prelude.{ℕ, ◌≤◌, ◌^◌, ℤ, pos, ◌<ℤ◌, ◌≤ℤ◌, List, [], ◌∷◌, All, AllPairs}
use Rattle.std.specs.List.{AllByRecursion}
use Rattle.std.proofs.Common.{arith}
use Rattle.std.proofs.lemmas.Int.{ints}
use Rattle.std.proofs.lemmas.List.Kept.{AllPairs-cons}
use Rattle.std.proofs.lemmas.List.Elements.{All-from_recursion}
use Rattle.kt_stream.specs.declared.entry.Pair.{Pair}
use Rattle.kt_stream.specs.declared.entry.SummaryRecord.{SummaryRecord}
use Rattle.kt_stream.specs.Pairs.{IsPair, BeginsAbove, RisingSidx}
use Rattle.kt_stream.specs.Summary.{IsSummary}
use Rattle.kt_elt.specs.Losses.{FitsSamples}

-- the sidx of pairs
within_samples : (samples : ℕ) (pairs : List Pair) → AllByRecursion (IsPair samples) pairs → AllByRecursion (λ (pair : Pair). pair.sidx ≤ℤ pos samples) pairs
within_samples samples [] all = tt
within_samples samples (pair ∷ pairs) all = (all.0.sidx.highest, within_samples samples pairs all.1)

-- the losses of pairs
within_losses : (samples : ℕ) (pairs : List Pair) → AllByRecursion (IsPair samples) pairs → AllByRecursion (λ (pair : Pair). pair.loss ≤ 10 ^ 16) pairs
within_losses samples [] all = tt
within_losses samples (pair ∷ pairs) all = (all.0.most, within_losses samples pairs all.1)

-- each sidx is one of the cells
pub fits_samples : (samples : ℕ) (pairs : List Pair) → AllByRecursion (IsPair samples) pairs → All (λ (pair : Pair). pair.sidx ≤ℤ pos samples) pairs
fits_samples samples pairs all = All-from_recursion (λ (pair : Pair). pair.sidx ≤ℤ pos samples) pairs (within_samples samples pairs all)

-- each loss is in its range
pub fits_losses : (samples : ℕ) (pairs : List Pair) → AllByRecursion (IsPair samples) pairs → All (λ (pair : Pair). pair.loss ≤ 10 ^ 16) pairs
fits_losses samples pairs all = All-from_recursion (λ (pair : Pair). pair.loss ≤ 10 ^ 16) pairs (within_losses samples pairs all)

-- the order of sidx
int_trans : (a b c : ℤ) → a <ℤ b → b <ℤ c → a <ℤ c
int_trans a b c p q = omega (arith, ints)

-- a pair is above a sidx
abbrev above : ℤ → Pair → Type 0
above sidx pair = sidx <ℤ pair.sidx

-- what is above a sidx is above a lower one
rises_above : (low sidx : ℤ) (pairs : List Pair) → low <ℤ sidx → AllByRecursion (above sidx) pairs → AllByRecursion (above low) pairs
rises_above low sidx [] less all = tt
rises_above low sidx (pair ∷ pairs) less all = (int_trans low sidx pair.sidx less all.0, rises_above low sidx pairs less all.1)

-- where sidx rise, all are above the first
all_above : (sidx : ℤ) (pairs : List Pair) → BeginsAbove sidx pairs → RisingSidx pairs → AllByRecursion (above sidx) pairs
all_above sidx [] begins rising = tt
all_above sidx (pair ∷ pairs) begins rising = (begins, rises_above sidx pair.sidx pairs begins (all_above pair.sidx pairs rising.0 rising.1))

-- where sidx rise, each pair is below the later ones
rising_pairs : (pairs : List Pair) → RisingSidx pairs → AllPairs (λ (earlier later : Pair). earlier.sidx <ℤ later.sidx) pairs
rising_pairs [] rising = λ i j d less inside. absurd (omega arith)
rising_pairs (pair ∷ pairs) rising =
    AllPairs-cons (λ (earlier later : Pair). earlier.sidx <ℤ later.sidx) pair pairs (All-from_recursion (above pair.sidx) pairs (all_above pair.sidx pairs rising.0 rising.1)) (rising_pairs pairs rising.1)

-- a record has the rows of so many samples
pub fits_rows : (samples : ℕ) (entry : SummaryRecord) → 1 ≤ samples → samples ≤ 1000 → IsSummary samples entry → FitsSamples samples entry.pairs
fits_rows samples entry some few summary = record {
  some = some;
  few = few;
  rising = rising_pairs entry.pairs summary.pairs.rising;
  within = fits_samples samples entry.pairs summary.pairs.each;
  losses = fits_losses samples entry.pairs summary.pairs.each;
}
