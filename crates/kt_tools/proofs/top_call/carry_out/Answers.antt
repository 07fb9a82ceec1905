use Rattle.std.proofs.Common.{◌∙◌, ap, refl, sym, subst}
use Rattle.kt_ends.specs.Report.{AnswersWords}
use Rattle.kt_ends.specs.declared.status.Status.TheVariants as status
use Rattle.kt_ends.specs.World.{world}
use Rattle.kt_tools.proofs.DueLemmas.{command_first, words_first}
use Rattle.kt_words.specs.Command.{command_of}
use Rattle.kt_tools.proofs.Running.{answers_command, by_command, by_words, command_is}
use Rattle.kt_tools.proofs.top_call.carry_out.Goals as goal

pub run_command-requires-clause-names : goal.run_command-requires-clause-names
run_command-requires-clause-names g c = λ lives within is. (c.read_command.ensures.names (c.in-Ok.is ∙ ap command_is is)).0

pub returns-in-Ok-clause-ends : goal.returns-in-Ok-clause-ends
returns-in-Ok-clause-ends g c = by_command c.args.words.now c.in-Ok.command _ _ c.run_command.result _ (sym c.read_command.ensures.value ∙ c.in-Ok.is) c.status_of.ensures c.run_command.ensures.ends

pub returns-in-Ok-clause-words : goal.returns-in-Ok-clause-words
returns-in-Ok-clause-words g c = answers_command c.args.words.now c.in-Ok.command c.run_command.result _ (sym c.read_command.ensures.value ∙ c.in-Ok.is) c.status_of.ensures

pub returns-in-Err-clause-ends : goal.returns-in-Err-clause-ends
returns-in-Err-clause-ends g c = by_words c.args.words.now c.in-Err.stop _ (sym c.read_command.ensures.value ∙ c.in-Err.is)

pub returns-in-Err-clause-words : goal.returns-in-Err-clause-words
returns-in-Err-clause-words g c = subst (λ read. AnswersWords read (status.Words c.in-Err.stop)) (sym (sym c.read_command.ensures.value ∙ c.in-Err.is)) refl

pub returns-in-Ok-clause-due : goal.returns-in-Ok-clause-due
returns-in-Ok-clause-due g c =
    command_first c.args.words.now (command_of c.args.words.now) c.in-Ok.command
    (world (g.I.Inputs.state c.args.inputs.now) (g.O.Outputs.state c.args.outputs.now) (g.S.Source.state c.args.source.now) (g.K.Sink.state c.args.sink.now))
    (world (g.I.Inputs.state c.run_command.new.inputs) (g.O.Outputs.state c.run_command.new.outputs) (g.S.Source.state c.run_command.new.source) (g.K.Sink.state c.run_command.new.sink))
    (sym c.read_command.ensures.value ∙ c.in-Ok.is) c.run_command.ensures.due

pub returns-in-Err-clause-due : goal.returns-in-Err-clause-due
returns-in-Err-clause-due g c =
    words_first c.args.words.now (command_of c.args.words.now) c.in-Err.stop
    (world (g.I.Inputs.state c.args.inputs.now) (g.O.Outputs.state c.args.outputs.now) (g.S.Source.state c.args.source.now) (g.K.Sink.state c.args.sink.now))
    (sym c.read_command.ensures.value ∙ c.in-Err.is)
