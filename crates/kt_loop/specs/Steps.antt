-- What a stage does at a step of its calculation, and where it stands behind it.
-- The rules: docs/STREAMS.md, "Tools over streams".
use Rattle.std.specs.Prelude.{◌≡◌, List, ◌++◌, ℕ, Option, Result, Ok, Err}
use Rattle.kt_ends.specs.declared.status.Refusal.{Refusal}
use Rattle.kt_ends.specs.declared.tool_stop.ToolStop.{ToolStop}
use Rattle.kt_loop.specs.Answering.{ByAnswer}
use Rattle.kt_loop.specs.Calculation.{Step, Course}
use Rattle.kt_loop.specs.Given.{Given, GivenFront}

-- the step was made: its text is appended, and the stage stands at the next state
pub record StepsOn {S R : Type 0} (step : Step S R) (stands : S → Type 0) (text text_now : List ℕ) : Type 0 where
  pub next : S
  pub reached : step.next ≡ Ok next
  pub state : stands next
  pub wrote : text_now ≡ text ++ step.text

-- the step refuses so: the text before the refusal is appended
pub record StepsToRefusal {S R : Type 0} (step : Step S R) (refusal : R) (text text_now : List ℕ) : Type 0 where
  pub reached : step.next ≡ Err refusal
  pub wrote : text_now ≡ text ++ step.text

-- the answer of a stage is that of the step; nothing is said of a fault or of want of memory
abbrev pub StepsBy : {S T : Type 0} → Step S Refusal → (S → Type 0) → List ℕ → List ℕ → Result T ToolStop → Type 0
StepsBy step stands text text_now answer = ByAnswer answer (StepsOn step stands text text_now) (λ why. StepsToRefusal step why text text_now) (Unit {0})

-- the text of the end is appended, and nothing is refused
abbrev pub EndsWith : {T : Type 0} → List ℕ → List ℕ → List ℕ → Result T ToolStop → Type 0
EndsWith end text text_now answer = ByAnswer answer (text_now ≡ text ++ end) (λ why. ⊥) (Unit {0})

-- the calculation came so far: the stage stands at the state, and all text is given or pending
pub record Stands {S R : Type 0} (stands : S → Type 0) (before now : Option (List ℕ)) (pending : List ℕ) (course : Course S R) : Type 0 where
  pub at : S
  pub reached : course.reached ≡ Ok at
  pub state : stands at
  pub given : Given before now pending course.text

-- the calculation is refused so, and all text before that is given or pending
pub record Refuses {S R : Type 0} (before now : Option (List ℕ)) (pending : List ℕ) (course : Course S R) (refusal : R) : Type 0 where
  pub reached : course.reached ≡ Err refusal
  pub given : Given before now pending course.text

-- calls come to the end of a course, or to its refusal; after a fault or for want of memory some front of its text is given
abbrev pub Comes : {S T : Type 0} → (S → Type 0) → Option (List ℕ) → Option (List ℕ) → List ℕ → Course S Refusal → Result T ToolStop → Type 0
Comes stands before now pending course answer = ByAnswer answer (Stands stands before now pending course) (λ why. Refuses before now pending course why) (GivenFront before now course.text)
