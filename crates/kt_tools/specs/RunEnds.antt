-- How a run ends.
-- The rules: docs/REFUSALS.md, "Statuses" and "Texts".
use Rattle.std.specs.Prelude.{ℕ, List}
use Rattle.kt_ends.specs.RunEnds.{RunEnded}
use Rattle.kt_ends.specs.World.{World}
use Rattle.kt_ends.specs.declared.status.Status.{Status}
use Rattle.kt_out.specs.Writing.{SinkState}
use Rattle.kt_tools.specs.Outcome.{outcome}
use Rattle.kt_tools.specs.Uses.{words_use}
use Rattle.kt_words.specs.Command.{command_of}

-- a run of these words ends by their outcome: the objects outside before and after it, standard error before and after it, and its answer
abbrev pub RunEnds : List (List ℕ) → World → World → SinkState → SinkState → Status → Type 0
RunEnds words before after err err_now answer = RunEnded (command_of words) (words_use (command_of words)) (outcome words) before after err err_now answer
