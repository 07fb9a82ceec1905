-- The losses of a run as they add up, record by record.
-- The rule: docs/STREAMS.md, "Runs".
use Rattle.std.specs.Prelude.{◌≡◌, ℕ, ◌+◌, ◌≤◌, List, length, slice_index}
use Rattle.kt_stream.specs.declared.entry.LossRecord.{LossRecord}
use Rattle.kt_runs.specs.RunLosses.{AreWithin, run_loss}
use Rattle.kt_runs.specs.Sidx.{sidx_at}
use Rattle.kt_runs.specs.Adding.{Holds}

-- sums of a stream with so many samples, a place for each sidx from -2 up, each at most 10^16 cents
pub record AreSums (samples : ℕ) (sums : List ℕ) : Type 0 where
  pub width_is : length sums ≡ samples + 3
  pub few : (k : ℕ) → slice_index sums k ≤ 10000000000000000

-- the sums are those of these records, which add to at most 10^16 cents at each sidx
pub record AreRunSums (samples : ℕ) (records : List LossRecord) (sums : List ℕ) : Type 0 where
  pub sums_are : Holds (samples + 3) (λ k. run_loss (sidx_at (2147483646 + k)) records) sums
  pub within : AreWithin records
