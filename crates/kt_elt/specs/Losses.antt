-- The losses of a summary record, and their means and deviations.
-- The rules: docs/OUTPUTS.md, "Event loss table".
use Rattle.std.specs.Prelude.{ℕ, ◌*◌, ◌^◌, ◌≤◌, ℤ, pos, negsuc, ◌<ℤ◌, ◌≤ℤ◌, List, [], ◌∷◌, map, sum, sum_by, All, AllPairs, if◌then◌else◌}
use Rattle.std.specs.List.{range_with_len}
use Rattle.std.specs.Ordering.{int_eq}
use Rattle.kt_money.specs.Rounding.{mean_of, deviation_of}
use Rattle.kt_money.specs.declared.moments.MeanSd.{MeanSd}
use Rattle.kt_stream.specs.declared.entry.Pair.{Pair}

-- the loss of a sidx, and 0 where the record has no such pair
abbrev pub loss_at : ℤ → List Pair → ℕ
loss_at sidx [] = 0
loss_at sidx (pair ∷ pairs) = if int_eq pair.sidx sidx then pair.loss else loss_at sidx pairs

-- the losses of sidx 1 to `samples` in order, zeros included
abbrev pub sample_losses : ℕ → List Pair → List ℕ
sample_losses samples pairs = map (λ k. loss_at (pos k) pairs) (range_with_len 1 samples)

-- the mean and the deviation that were computed from the distributions: the losses of sidx -1 and -2
abbrev pub analytical_moments : List Pair → MeanSd
analytical_moments pairs = record { mean = loss_at (negsuc 0) pairs; sd = loss_at (negsuc 1) pairs }

-- the mean and the deviation of the samples
abbrev pub sample_moments : ℕ → List Pair → MeanSd
sample_moments samples pairs =
    let losses = sample_losses samples pairs in
    let squares = sum_by (λ loss. loss * loss) losses in
    record { mean = mean_of samples (sum losses); sd = deviation_of samples (sum losses) squares }

-- what a record with so many samples has to meet: its sidx rise and are no greater, and its losses are at most 10^16 cents
pub record FitsSamples (samples : ℕ) (pairs : List Pair) : Type 0 where
  pub some : 1 ≤ samples
  pub few : samples ≤ 1000
  pub rising : AllPairs (λ earlier later. earlier.sidx <ℤ later.sidx) pairs
  pub within : All (λ pair. pair.sidx ≤ℤ pos samples) pairs
  pub losses : All (λ pair. pair.loss ≤ 10 ^ 16) pairs
