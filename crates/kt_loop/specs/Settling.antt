-- How the loop ends, before what is pending is written.
-- The rules: docs/STREAMS.md, "Tools over streams".
use Rattle.std.specs.Prelude.{◌≡◌, List, ℕ, Option, IfSome, Result, Err}
use Rattle.kt_ends.specs.Ending.{Verdict, Gained}
use Rattle.kt_ends.specs.Outcome.{Outcome}
use Rattle.kt_ends.specs.declared.status.Status.{Status}
use Rattle.kt_ends.specs.declared.status.Status.TheVariants.{Done, Refused}
use Rattle.kt_ends.specs.declared.tool_stop.ToolStop.{ToolStop}
use Rattle.kt_loop.specs.Answering.{ByAnswer}
use Rattle.kt_loop.specs.Given.{Given, GivenFront}

-- the outcome has this status, and all its output is given or pending
pub record IsSettled (outcome : Outcome) (before now : Option (List ℕ)) (pending : List ℕ) (end : Status) : Type 0 where
  pub status : outcome.status ≡ end
  pub given : Given before now pending outcome.output

-- the loop ended as the outcome says; after a fault or for want of memory some front of its output is given
abbrev pub Settles : {T : Type 0} → Outcome → Option (List ℕ) → Option (List ℕ) → List ℕ → Result T ToolStop → Type 0
Settles outcome before now pending answer = ByAnswer answer (IsSettled outcome before now pending Done) (λ why. IsSettled outcome before now pending (Refused why)) (GivenFront before now outcome.output)

-- the same of a stop
abbrev pub StopSettles : Outcome → Option (List ℕ) → Option (List ℕ) → List ℕ → ToolStop → Type 0
StopSettles outcome before now pending why = Settles {T = Unit {0}} outcome before now pending (Err why)

-- the outcome of a run, and what was written of it
pub record IsEnd (made : Outcome) (before now : Option (List ℕ)) (end : Status) : Type 0 where
  pub verdict : Verdict made.status end
  pub output : IfSome before (λ taken. Gained made.output taken now end)
