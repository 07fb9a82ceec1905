-- Runs in which no call of the objects outside failed.
-- The rules: docs/REFUSALS.md, "Statuses".
use Rattle.std.specs.Prelude.{◌≡◌, ◌⊎◌, ℕ, List, Result}
use Rattle.kt_out.specs.Counts.{HasRisen}
use Rattle.kt_out.specs.NamedFiles.{FileMap}
use Rattle.kt_out.specs.Writing.{SinkState}
use Rattle.kt_ends.specs.Outcome.{Outcome}
use Rattle.kt_ends.specs.RunEnds.{RunEnded}
use Rattle.kt_ends.specs.World.{World, Uses, Finds}
use Rattle.kt_ends.specs.declared.status.Status.{Status}
use Rattle.kt_ends.specs.declared.status.Status.TheVariants.{NoMemory}
use Rattle.kt_words.specs.declared.command.Command.{Command}
use Rattle.kt_words.specs.declared.stop.WordStop.{WordStop}

-- no count of the source, the input files, the sink and the output files rose; those of standard error and of misses play no part
pub record IsClear (before after : World) : Type 0 where
  pub inputs : HasRisen before.inputs.faults after.inputs.faults → ⊥
  pub outputs : HasRisen before.outputs.faults after.outputs.faults → ⊥
  pub source : HasRisen before.source.faults after.source.faults → ⊥
  pub sink : HasRisen before.sink.faults after.sink.faults → ⊥

-- a clear run answers what the words, the files and the source come to, or that memory is wanting
abbrev pub IsComplete : Result Command WordStop → Uses → (FileMap → List ℕ → Outcome) → World → World → SinkState → SinkState → Status → Type 0
IsComplete read uses made before after err err_now answer =
    RunEnded read uses made before after err err_now answer → IsClear before after → (files : FileMap) (source : List ℕ) → Finds uses before files source → ((made files source).status ≡ answer) ⊎ (answer ≡ NoMemory)
