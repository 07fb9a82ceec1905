use Rattle.std.proofs.Common.{◌∙◌, ap, sym}
use Rattle.kt_words.specs.Reading.{unless_wrong}
use Rattle.kt_words.proofs.Fitting.{read_whole}
use Rattle.kt_words.proofs.Taking.{read_more, faulty_word, sound_words}
use Rattle.kt_words.proofs.reading.read_given.Goals as goal

pub words-preserved : goal.words-preserved
words-preserved c =
    c.words.invariant ∙ read_more c.args.tool c.words.given c.in-Ok.given c.words.n c.args.words.now c.word.result.now c.word.ensures.value (sym c.with_word.ensures ∙ c.in-Ok.is)

pub returns-in-Err-clause-value : goal.returns-in-Err-clause-value
returns-in-Err-clause-value c =
    c.refused.ensures ∙ sym (faulty_word c.args.words.now c.word.result.now c.args.tool c.words.given c.words.n c.in-Err.cause c.words.invariant c.word.ensures.value (sym c.with_word.ensures ∙ c.in-Err.is))

pub returns-in-Ok-finish-clause-value : goal.returns-in-Ok-finish-clause-value
returns-in-Ok-finish-clause-value c =
    sym (sound_words c.args.words.now c.args.tool c.words.given c.words.n c.len.result c.finish.result c.words.invariant c.len.ensures.value (rw (← c.len-n-end.ensures.value) c.words-test.false) c.finish.ensures ∙ ap (unless_wrong c.words.given) c.in-Ok-finish.is)

pub returns-in-Err-finish-clause-value : goal.returns-in-Err-finish-clause-value
returns-in-Err-finish-clause-value c =
    sym (sound_words c.args.words.now c.args.tool c.words.given c.words.n c.len.result c.finish.result c.words.invariant c.len.ensures.value (rw (← c.len-n-end.ensures.value) c.words-test.false) c.finish.ensures ∙ ap (unless_wrong c.words.given) c.in-Err-finish.is)

pub returns-in-Ok-finish-clause-read : goal.returns-in-Ok-finish-clause-read
returns-in-Ok-finish-clause-read c =
    read_whole c.args.tool c.args.words.now c.words.given
    (sound_words c.args.words.now c.args.tool c.words.given c.words.n c.len.result c.finish.result c.words.invariant c.len.ensures.value (rw (← c.len-n-end.ensures.value) c.words-test.false) c.finish.ensures ∙ ap (unless_wrong c.words.given) c.in-Ok-finish.is)
