-- How a run ends by its words and its command.
use Rattle.std.proofs.Common.{◌≡◌, ℕ, List, Result, Ok, Err, refl, subst, sym}
use Rattle.kt_ends.specs.Ending.{ToolEnds}
use Rattle.kt_ends.specs.Endings.{ends_words}
use Rattle.kt_ends.specs.Report.{AnswersWords, IsNoWords}
use Rattle.kt_ends.specs.RunEnds.{no_words}
use Rattle.kt_ends.specs.Stops.{end_status}
use Rattle.kt_ends.specs.World.{World}
use Rattle.kt_ends.specs.declared.status.Status.{Status}
use Rattle.kt_ends.specs.declared.status.Status.TheVariants as status
use Rattle.kt_ends.specs.declared.tool_stop.ToolStop.{ToolStop}
use Rattle.kt_tools.specs.Outcome.{command_outcome, words_outcome}
use Rattle.kt_tools.specs.Uses.{command_uses, words_use}
use Rattle.kt_words.specs.Command.{command_of}
use Rattle.kt_words.specs.declared.command.Command.{Command}
use Rattle.kt_words.specs.declared.stop.WordStop.{WordStop}

-- a command that was read
abbrev pub command_is : Command → Result Command WordStop
command_is command = Ok command

module _ (words : List (List ℕ)) where
  -- the end by what the words are
  abbrev pub EndsBy : Result Command WordStop → World → World → Status → Type 0
  EndsBy read before after end = ToolEnds (words_use read) (words_outcome words read) before after end

  -- the end of a command is that of the run, where the words are that command
  pub by_command : (command : Command) (before after : World) (result : Result (Unit {0}) ToolStop) (answer : Status) → command_of words ≡ Ok command → answer ≡ end_status result → ToolEnds (command_uses command) (command_outcome words command) before after (end_status result) → EndsBy (command_of words) before after answer
  by_command command before after result answer is same ends =
      subst (λ (read : Result Command WordStop). EndsBy read before after answer) (sym is) (subst (λ (end : Status). EndsBy (Ok command) before after end) (sym same) ends)

  -- a command is answered by no faulty words
  pub answers_command : (command : Command) (result : Result (Unit {0}) ToolStop) (answer : Status) → command_of words ≡ Ok command → answer ≡ end_status result → AnswersWords (command_of words) answer
  answers_command command result answer is same =
      subst (λ (read : Result Command WordStop). AnswersWords read answer) (sym is) (subst IsNoWords (sym same) (no_words result))

  -- faulty words end a run that has done nothing
  pub by_words : (stop : WordStop) (before : World) → command_of words ≡ Err stop → EndsBy (command_of words) before before (status.Words stop)
  by_words stop before is =
      subst (λ (read : Result Command WordStop). EndsBy read before before (status.Words stop)) (sym is)
      (ends_words _ _ _ before before stop (record { inputs = refl; outputs = refl; sink = refl; reads = refl; source = λ unused. refl }) (λ files source finds. refl))
