-- How a tool ends that carries out a calculation over a stream.
-- The rules: docs/STREAMS.md, "Tools over streams".
use Rattle.std.specs.Prelude.{◌≡◌, Bool, true, false, List, ℕ}
use Rattle.kt_out.specs.NamedFiles.{FileMap}
use Rattle.kt_ends.specs.Ending.{Ended}
use Rattle.kt_ends.specs.Outcome.{Outcome}
use Rattle.kt_ends.specs.World.{World, Uses, Finds, FindsFiles, Keeps}
use Rattle.kt_ends.specs.declared.status.Refusal.{Refusal}
use Rattle.kt_ends.specs.declared.status.Status.{Status}
use Rattle.kt_loop.specs.Calculation.{Calculation}
use Rattle.kt_loop.specs.Contents.{Contents}
use Rattle.kt_loop.specs.Outcome.{outcome}

-- a tool over a stream uses the source and the sink, no output file, and the input files where it asks them
abbrev pub stream_uses : Bool → Uses
stream_uses asks = record { inputs = asks; outputs = false; source = true; whole = false; sink = true }

-- this outcome is that of the calculation over a stream, from a state at which the stage stands
pub record Makes {H E S : Type 0} (calculation : Calculation H E S Refusal) (contents : Contents H E) (stands : S → Type 0) (made : Outcome) : Type 0 where
  pub start : S
  pub stood : stands start
  pub is : made ≡ outcome calculation start contents

-- A run ends by what was made of the files and of the bytes of the source, where that is the outcome of the
-- calculation over any bytes whenever the input files tell these files.
abbrev pub EndsRun : {H E S : Type 0} → Calculation H E S Refusal → (List ℕ → Contents H E) → (S → Type 0) → Bool → (FileMap → List ℕ → Outcome) → World → World → Status → Type 0
EndsRun calculation contents stands asks made before after end =
    Keeps asks before.inputs after.inputs
    → ((files : FileMap) (bytes : List ℕ) → FindsFiles (stream_uses asks) before files → Makes calculation (contents bytes) stands (made files bytes))
    → Ended (Finds (stream_uses asks) before) (stream_uses asks) made before after end
