-- Sums sidx by sidx.
-- The rule: docs/STREAMS.md, "Runs".
use Rattle.std.specs.Prelude.{◌≡◌, ℕ, ◌+◌, ◌<◌, ◌≤◌, List, length, All, slice_index}
use Rattle.kt_stream.specs.declared.entry.Pair.{Pair}
use Rattle.kt_runs.specs.RunLosses.{loss_of}
use Rattle.kt_runs.specs.Sidx.{place_of, sidx_at}

-- sums have so many places, and hold a loss for each
pub record Holds (width : ℕ) (loss : ℕ → ℕ) (sums : List ℕ) : Type 0 where
  pub width_is : length sums ≡ width
  pub each : (k : ℕ) → k < width → slice_index sums k ≡ loss k

-- a place is one of the sums
pub record IsInside (least width place : ℕ) : Type 0 where
  pub low : least ≤ place
  pub high : place < least + width

-- the places of pairs are among those of the sums
abbrev pub AreInside : ℕ → ℕ → List Pair → Type 0
AreInside least width pairs = All (λ pair. IsInside least width (place_of pair.sidx)) pairs

-- the losses of pairs are added to sums
abbrev pub IsAdded : ℕ → List ℕ → List Pair → List ℕ → Type 0
IsAdded least before pairs now = Holds (length before) (λ k. slice_index before k + loss_of (sidx_at (least + k)) pairs) now
