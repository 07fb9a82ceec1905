use Rattle.std.proofs.Common.{◌≡◌, ◌+◌, drop}
use Rattle.kt_words.specs.Given.{none_given}
use Rattle.kt_words.specs.Reading.{read_from}
use Rattle.kt_words.proofs.reading.read_given.Given as goal

abbrev pub invariant-words : goal.invariant-words
invariant-words l = read_from l.tool none_given 2 (drop 1 l.fn.words) ≡ read_from l.tool l.given (l.n + 1) (drop l.n l.fn.words)
