-- The limit of the losses of a run, by computing.
-- The rule: docs/STREAMS.md, "Runs".
use Rattle.std.specs.Prelude.{◌≡◌, ℕ, true, false, pos, [], ◌∷◌}
use Rattle.std.proofs.Common.{refl}
use Rattle.kt_stream.specs.declared.entry.LossRecord.{LossRecord}
use Rattle.kt_runs.specs.RunLosses.{goes_past}

-- a sample of an output in event 4
sampled : ℕ → ℕ → LossRecord
sampled id loss = record { event = 4; id = id; pairs = record { sidx = pos 1; loss = loss } ∷ [] }

-- losses of a run at the limit, and one cent more
at_limit : goes_past (sampled 1 5000000000000000 ∷ []) (sampled 2 5000000000000000) ≡ false
unfolding sampled
at_limit = refl

past_limit : goes_past (sampled 1 5000000000000000 ∷ []) (sampled 2 5000000000000001) ≡ true
unfolding sampled
past_limit = refl
