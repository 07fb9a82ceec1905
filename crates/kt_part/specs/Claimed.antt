-- What the pass of a round has claimed after it.
-- The rule: docs/ARCHITECTURE.md, "A run of all stages".
use Rattle.std.specs.Prelude.{◌≡◌, ℕ, ◌+◌, ◌*◌, ◌<◌, ◌⊎◌, [], length, Result, Ok, Err}
use Rattle.kt_claims.specs.Numbers.{times}
use Rattle.kt_claims.specs.Passes.{claims_of, left_of}
use Rattle.kt_claims.specs.declared.claims.Pass.{Pass}
use Rattle.kt_part.specs.declared.round.RoundStop.{RoundStop}
use Rattle.kt_part.specs.declared.round.RoundStop.TheVariants.{Fold, OutOfMemory}

-- a pass has all draws of so many workers again, and its claims have each number below a bound exactly once
pub record HasClaimed (workers bound : ℕ) (pass : Pass) : Type 0 where
  pub turns : length (claims_of pass) + left_of pass ≡ 17 * workers
  pub each : (number : ℕ) → number < bound → times number (claims_of pass) ≡ 1

-- the pass after a round: each number was claimed; where memory was wanting, each or none
abbrev pub ClaimsAfter : {S : Type 0} → ℕ → ℕ → Pass → Result (Unit {0}) (RoundStop S) → Type 0
ClaimsAfter workers bound pass (Ok done) = HasClaimed workers bound pass
ClaimsAfter workers bound pass (Err (Fold number stop)) = HasClaimed workers bound pass
ClaimsAfter workers bound pass (Err OutOfMemory) = (claims_of pass ≡ []) ⊎ HasClaimed workers bound pass

-- memory was wanting before the first claim: no number was claimed, no block was taken, and the fold is as it was
pub record WantsForRound {F : Type 0} (pass : Pass) (old new : F) (taken : ℕ) : Type 0 where
  pub none_claimed : claims_of pass ≡ []
  pub none_taken : taken ≡ 0
  pub same : new ≡ old

-- memory was wanting for the block of the number behind those that were taken, and each number was claimed
pub record WantsForBlock (lacks : ℕ → Type 0) (workers bound : ℕ) (pass : Pass) (taken : ℕ) : Type 0 where
  pub claimed : HasClaimed workers bound pass
  pub below : taken < bound
  pub lacking : lacks taken

-- for what memory was wanting in a round, behind so many blocks that were taken
abbrev pub WantsMemory : {F : Type 0} → (ℕ → Type 0) → ℕ → ℕ → Pass → F → F → ℕ → Type 0
WantsMemory lacks workers bound pass old new taken = WantsForRound pass old new taken ⊎ WantsForBlock lacks workers bound pass taken
