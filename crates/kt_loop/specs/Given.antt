-- What of a text a sink has taken, while the rest waits to be written.
-- The rules: docs/STREAMS.md, "Tools over streams".
use Rattle.std.specs.Prelude.{◌≡◌, List, ◌++◌, ℕ, Option, Some, IfSome, Result, Ok, Err}
use Rattle.kt_ends.specs.Ending.{GainedFront}

-- the sink has taken a front of the text behind what it had, and the rest is pending
pub record IsGiven (taken : List ℕ) (now : Option (List ℕ)) (pending text : List ℕ) : Type 0 where
  pub front : List ℕ
  pub whole : text ≡ front ++ pending
  pub gained : now ≡ Some (taken ++ front)

-- the same, where it is known what the sink has taken
abbrev pub Given : Option (List ℕ) → Option (List ℕ) → List ℕ → List ℕ → Type 0
Given before now pending text = IfSome before (λ taken. IsGiven taken now pending text)

-- the sink has taken some front of the text behind what it had, where that is known
abbrev pub GivenFront : Option (List ℕ) → Option (List ℕ) → List ℕ → Type 0
GivenFront before now text = IfSome before (λ taken. GainedFront text taken now)

-- what writing all that is pending comes to
abbrev pub Spills : {T E : Type 0} → Option (List ℕ) → Option (List ℕ) → List ℕ → List ℕ → Result T E → Type 0
Spills before now pending text (Ok done) = Given before now pending text
Spills before now pending text (Err stop) = GivenFront before now text
