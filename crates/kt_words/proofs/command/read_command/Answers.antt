use Rattle.std.proofs.Common.{◌≡◌, ◌∙◌, refl, ap, sym}
use Rattle.kt_words.specs.Command.{by_tool, command_by, command_of}
use Rattle.kt_words.proofs.FileNaming.{kat_names}
use Rattle.kt_words.proofs.Taking.{command_by_first}
use Rattle.kt_words.proofs.command.read_command.Goals as goal

pub returns-in-Err-clause-value : goal.returns-in-Err-clause-value
returns-in-Err-clause-value c =
    let first : command_of c.args.words.now ≡ by_tool c.read_tool.result c.args.words.now = command_by_first c.args.words.now c.word.result.now c.read_tool.result c.word.ensures.value c.read_tool.ensures in
    c.refused-in-Err.ensures ∙ sym (first ∙ rw c.in-Err.is refl)

pub returns-in-Ok-read_given-clause-names : goal.returns-in-Ok-read_given-clause-names
returns-in-Ok-read_given-clause-names c is =
    let first : command_of c.args.words.now ≡ by_tool c.read_tool.result c.args.words.now = command_by_first c.args.words.now c.word.result.now c.read_tool.result c.word.ensures.value c.read_tool.ensures in
    kat_names c.args.words.now (first ∙ rw c.in-Ok.is (ap (command_by c.in-Ok.tool) (sym c.read_given.ensures.value ∙ c.in-Ok-read_given.is) ∙ sym c.tool_command.ensures.value ∙ is))

pub returns-in-Ok-read_given-clause-value : goal.returns-in-Ok-read_given-clause-value
returns-in-Ok-read_given-clause-value c =
    let first : command_of c.args.words.now ≡ by_tool c.read_tool.result c.args.words.now = command_by_first c.args.words.now c.word.result.now c.read_tool.result c.word.ensures.value c.read_tool.ensures in
    c.tool_command.ensures.value ∙ sym (first ∙ rw c.in-Ok.is (ap (command_by c.in-Ok.tool) (sym c.read_given.ensures.value ∙ c.in-Ok-read_given.is)))

pub returns-in-Err-read_given-clause-value : goal.returns-in-Err-read_given-clause-value
returns-in-Err-read_given-clause-value c =
    let first : command_of c.args.words.now ≡ by_tool c.read_tool.result c.args.words.now = command_by_first c.args.words.now c.word.result.now c.read_tool.result c.word.ensures.value c.read_tool.ensures in
    sym (first ∙ rw c.in-Ok.is (ap (command_by c.in-Ok.tool) (sym c.read_given.ensures.value ∙ c.in-Err-read_given.is)))
