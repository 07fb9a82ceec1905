-- What a contract sees of a pass.
-- The rule: docs/ARCHITECTURE.md, "A run of all stages".
use Rattle.std.specs.Prelude.{◌≡◌, ℕ, ◌+◌, ◌*◌, ◌<◌, ◌≤◌, List, [], ◌∷◌, ◌++◌, length, Option, MatchOption}
use Rattle.kt_claims.specs.Numbers.{AreBelow}
use Rattle.kt_claims.specs.declared.claims.Claims.{Claims}
use Rattle.kt_claims.specs.declared.claims.Pass.{Pass}

-- the numbers that a pass has claimed, in the order of its draws
abbrev pub claims_of : Pass → List ℕ
claims_of pass = pass.seat.me.0.claims

-- the draws that a pass has left
abbrev pub left_of : Pass → ℕ
left_of pass = pass.seat.me.0.left

-- among how many workers the draws were dealt
abbrev pub workers_of : Pass → ℕ
workers_of pass = pass.seat.me.0.workers

-- a pass is one of these claims
abbrev pub IsPassOf : Claims → Pass → Type 0
IsPassOf claims pass = pass.seat.table_id ≡ claims.table.shared.table_id

-- a pass has claimed nothing and has all draws of so many workers
pub record IsFresh (workers : ℕ) (pass : Pass) : Type 0 where
  pub none : claims_of pass ≡ []
  pub left : left_of pass ≡ 17 * workers
  pub among : workers_of pass ≡ workers

-- A pass claimed one drawn number, which is above all that it had claimed, of which there are at most as many, and has one draw less.
-- The answer is this number where it is below the bound, and none exactly where it is not.
pub record HasDrawn (bound : ℕ) (before after : Pass) (answer : Option ℕ) : Type 0 where
  pub number : ℕ
  pub claimed : claims_of after ≡ claims_of before ++ number ∷ []
  pub above : AreBelow number (claims_of before)
  pub many : length (claims_of before) ≤ number
  pub left : left_of before ≡ left_of after + 1
  pub workers : workers_of after ≡ workers_of before
  pub answered : MatchOption answer (bound ≤ number) (λ told. (told ≡ number) × (number < bound))

-- a pass of these claims has claimed nothing, and the draws of so many of its workers were cut off it
pub record IsGivenOut (claims : Claims) (workers given : ℕ) (pass : Pass) : Type 0 where
  pub of : IsPassOf claims pass
  pub none : claims_of pass ≡ []
  pub left : left_of pass + 17 * given ≡ 17 * workers
  pub among : workers_of pass ≡ workers
